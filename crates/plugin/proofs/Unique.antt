-- Law: each contract here leaves no choice: two exits of one call that both meet it have the same numbers in every array that is written.
-- Stated of the contracts themselves, as the check reads them (`Post`). docs/READING.md: "What a contract has to nail". Assumes nothing.
use mathlib.Core.Path.{◌≡◌, sym, ◌∙◌}
use mathlib.Core.List.{List}
use Prim.Native.Nat.{ℕ}
use contract.Lifetimes.{Lfts}
use denote.Triple.Clauses.{AtExit}
use borrow.Fn.Kinds.{ParamKind, ResultKind, Out, Dens, res_t, ended_of}
use Rattle.plugin.proofs.rumiotka_evaluate.Kinds as evaluate-kinds
use Rattle.plugin.proofs.rumiotka_evaluate.Reads as evaluate-reads
use Rattle.plugin.proofs.rumiotka_compile.Kinds as compile-kinds
use Rattle.plugin.proofs.rumiotka_compile.Reads as compile-reads
use Rattle.plugin.proofs.rumiotka_power_up.Kinds as power-up-kinds
use Rattle.plugin.proofs.rumiotka_power_up.Reads as power-up-reads
use Rattle.plugin.proofs.rumiotka_step.Kinds as step-kinds
use Rattle.plugin.proofs.rumiotka_step.Reads as step-reads
use Rattle.plugin.proofs.rumiotka_write.Kinds as write-kinds
use Rattle.plugin.proofs.rumiotka_write.Reads as write-reads

-- What `seen` reads of a call's exit is the same at any two exits that meet the contract.
abbrev Settled : (n : ℕ) (ps : List (ParamKind n)) (r : ResultKind n) → Out n ps r →
    ((κs : Lfts n) → AtExit (ended_of n ps r) κs → List ℕ) → Type 0
Settled n ps r meets seen =
    (κs : Lfts n) (a : Dens κs ps) (r₁ r₂ : (res_t r κs).Denot) (s₁ s₂ : AtExit (ended_of n ps r) κs) →
    meets κs a r₁ s₁ → meets κs a r₂ s₂ → seen κs s₁ ≡ seen κs s₂

pub evaluate-answer : Settled 3 evaluate-kinds.ps evaluate-kinds.r evaluate-reads.Post (λ κs s. s.1.1.1.1.0.now)
evaluate-answer κs a r₁ r₂ s₁ s₂ p q = p ∙ sym q

pub compile-netlist : Settled 3 compile-kinds.ps compile-kinds.r compile-reads.Post (λ κs s. s.1.1.0.now)
compile-netlist κs a r₁ r₂ s₁ s₂ p q = p.1 ∙ sym q.1

pub compile-answer : Settled 3 compile-kinds.ps compile-kinds.r compile-reads.Post (λ κs s. s.1.1.1.0.now)
compile-answer κs a r₁ r₂ s₁ s₂ p q = p.0 ∙ sym q.0

pub power-up-wires : Settled 4 power-up-kinds.ps power-up-kinds.r power-up-reads.Post (λ κs s. s.1.1.1.1.0.now)
power-up-wires κs a r₁ r₂ s₁ s₂ p q = p.1 ∙ sym q.1

pub power-up-answer : Settled 4 power-up-kinds.ps power-up-kinds.r power-up-reads.Post (λ κs s. s.1.1.1.1.1.0.now)
power-up-answer κs a r₁ r₂ s₁ s₂ p q = p.0 ∙ sym q.0

pub step-wires : Settled 5 step-kinds.ps step-kinds.r step-reads.Post (λ κs s. s.1.1.1.1.1.0.now)
step-wires κs a r₁ r₂ s₁ s₂ p q = p.1 ∙ sym q.1

pub step-answer : Settled 5 step-kinds.ps step-kinds.r step-reads.Post (λ κs s. s.1.1.1.1.1.1.0.now)
step-answer κs a r₁ r₂ s₁ s₂ p q = p.0 ∙ sym q.0

pub write-text : Settled 4 write-kinds.ps write-kinds.r write-reads.Post (λ κs s. s.1.1.1.1.1.1.0.now)
write-text κs a r₁ r₂ s₁ s₂ p q = p.1 ∙ sym q.1

pub write-answer : Settled 4 write-kinds.ps write-kinds.r write-reads.Post (λ κs s. s.1.1.1.1.1.1.1.0.now)
write-answer κs a r₁ r₂ s₁ s₂ p q = p.0 ∙ sym q.0
