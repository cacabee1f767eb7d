-- Law: the words of two padded lists side by side, the first n long, are the two lists' words, padded. Assumes nothing.
use Rattle.std.proofs.Common.{ℕ, ◌+◌, ◌-◌, ◌≤◌, ◌≡◌, List, ◌++◌, length, replicate, append_assoc, arith, length-append}
use Rattle.std.proofs.Math.Seq.{take_at, take-append-add}
use Rattle.std.proofs.lemmas.List.{take-replicate}
use Rattle.meaning.specs.Choices.{padded}
use Rattle.leaves.specs.Results.{side_by_side}

pub beside-padded : (u v : List ℕ) (n : ℕ) → length u ≡ n → n + length v ≤ 16 →
    side_by_side (padded 16 u) n (padded 16 v) ≡ padded 16 (u ++ v)
beside-padded u v n e h =
    let z = take-append-add v (replicate (16 - length v) 0) (16 - n - length v) in
    grind (arith, length-append u v, append_assoc, take_at {A = ℕ}, take-replicate {X = ℕ})
