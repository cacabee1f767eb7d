-- Law: what a term's run from one cycle to another leaves, by what the runs of its parts leave: a combinator goes on from the
-- cycle at which its part ended, on the words that this left. Assumes nothing.
use Rattle.std.proofs.Common.{ℕ, zero, suc, ◌+◌, ◌-◌, ◌≤◌, max, ◌≡◌, refl, sym, ap, ◌∙◌, true, false, ◌++◌, Option, Some, None, arith}
use Rattle.meaning.specs.Choices.{bit, at, padded}
use Rattle.meaning.specs.Words.{Words}
use Rattle.meaning.specs.Terms.{Term, seq, par, ite, rec}
use Rattle.meaning.specs.Counts.{outs}
use Rattle.meaning.specs.Cycles.{Result as Run, unfinished, ended, later, holds, evaluate}
use Rattle.meaning.proofs.Lists.{padded-at}
use Rattle.meaning.proofs.Exact.{ended-runs}
use Rattle.meaning.proofs.Typed.{Typed, par_typed, typed-outs, Well, typed-well}
use Rattle.meaning.proofs.Lengths.{evaluate-length}
use Rattle.meaning.proofs.Alike.{padded-evaluates}
use Rattle.meaning.proofs.Steps as steps
use Rattle.leaves.specs.Results.{run_from, end_of, Leaves, side_by_side}
use Rattle.leaves.proofs.Joined.{beside-padded}
use Rattle.leaves.proofs.Left.{leaves-stopped, leaves-ended, leaves-as}

-- What a run of a term leaves.
abbrev pub Ran : ℕ → Term → ℕ → ℕ → Words → Option ℕ → Words → Type 0
Ran w T start limit x e array = Leaves (run_from (evaluate w T) start limit x) e array

-- The run was left unfinished.
pub record Stopped (w : ℕ) (T : Term) (start limit : ℕ) (x : Words) : Type 0 where
  pub result : evaluate w T (limit - start) x ≡ unfinished

-- The run ended at a cycle, with words that the array holds.
pub record Gave (w : ℕ) (T : Term) (start limit : ℕ) (x : Words) (end : ℕ) (array : Words) : Type 0 where
  pub cycles : ℕ
  pub words : Words
  pub result : evaluate w T (limit - start) x ≡ ended cycles words
  pub time : end ≡ start + cycles
  pub within : end ≤ limit
  pub held : array ≡ padded 16 words

module _ (w : ℕ) (T : Term) (start limit : ℕ) (x array : Words) where
  pub stopped : Ran w T start limit x None array → Stopped w T start limit x
  stopped l = record { result = go (evaluate w T (limit - start) x) l.end }
    where
      go : (r : Run) → None ≡ end_of (later start r) → r ≡ unfinished
      go unfinished q = refl
      go (ended c ws) q = cc

  pub gave : (end : ℕ) → start ≤ limit → Ran w T start limit x (Some end) array → Gave w T start limit x end array
  gave end h l = go (evaluate w T (limit - start) x) refl
    where
      go : (r : Run) → evaluate w T (limit - start) x ≡ r → Gave w T start limit x end array
      go unfinished p = let q = l.end ∙ ap (λ (r : Run). end_of (later start r)) p in cc
      go (ended c ws) p =
          let t : end ≡ start + c = let q = l.end ∙ ap (λ (r : Run). end_of (later start r)) p in cc in
          let b = (ended-runs w T (limit - start) x c ws p).1 in
          record {
            cycles = c;
            words = ws;
            result = p;
            time = t;
            within = omega arith;
            held = l.words (start + c) ws (ap (later start) p);
          }

-- What the array holds evaluates as the words do, and its first word is theirs.
module _ {w : ℕ} {P : Term} {start limit : ℕ} {x : Words} {end : ℕ} {array : Words} (p : Gave w P start limit x end array) where
  held-evaluates : (G : Term) (n : ℕ) → evaluate w G n array ≡ evaluate w G n p.words
  held-evaluates G n = ap (evaluate w G n) p.held ∙ padded-evaluates w G n 16 p.words

  held_first : at array 0 ≡ at p.words 0
  held_first = ap (λ (l : Words). at l 0) p.held ∙ padded-at 16 p.words 0

  first_holds : (at array 0 ≡ 0 → ⊥) → holds p.words ≡ true
  first_holds h = go (at p.words 0) (λ z. h (held_first ∙ z))
    where
      go : (n : ℕ) → (n ≡ 0 → ⊥) → bit n ≡ true
      go zero f = absurd (f refl)
      go (suc n) f = refl

  first-fails : at array 0 ≡ 0 → holds p.words ≡ false
  first-fails h = let z : at p.words 0 ≡ 0 = sym held_first ∙ h in ap bit z

  left : limit - start - p.cycles ≡ limit - end
  left = omega (arith, p.time)

  -- A run goes on as another from the end of its part on.
  moves : (T G : Term) (y : Words) →
      evaluate w T (limit - start) x ≡ later p.cycles (evaluate w G (limit - start - p.cycles) y) →
      run_from (evaluate w T) start limit x ≡ run_from (evaluate w G) end limit y
  moves T G y h =
      ap (later start) h ∙ (steps.later-later start p.cycles (evaluate w G (limit - start - p.cycles) y) ∙
      (let t = p.time in rw (← t, left)))

-- The two sides of a Par are well typed, and give few words together.
par-sides : {w : ℕ} {F G : Term} {i o : ℕ} → Typed w (par F G) i o → Well w F × Well w G × (outs F + outs G ≤ 16)
par-sides (par_typed a b l f g) = (typed-well f, typed-well g, omega (arith, typed-outs f, typed-outs g))

-- Where the first part is unfinished, so is the combinator.
module _ {w : ℕ} {F : Term} {start limit : ℕ} {x : Words} (s : Stopped w F start limit x) {T G : Term} {e : Option ℕ} {array : Words}
    (none : e ≡ None) where
  pub seq-stops : T ≡ seq F G → Ran w T start limit x e array
  seq-stops q = rw (q, none) (leaves-stopped start _ array (steps.seq_stops w F G (limit - start) x s.result))

  pub par-stops-first : T ≡ par F G → Ran w T start limit x e array
  par-stops-first q = rw (q, none) (leaves-stopped start _ array (steps.par-stops-first w F G (limit - start) x s.result))

  pub ite-stops : {H : Term} → T ≡ ite F G H → Ran w T start limit x e array
  ite-stops {H} q = rw (q, none) (leaves-stopped start _ array (steps.ite-stops w F G H (limit - start) x s.result))

  pub rec-stops : {H : Term} → T ≡ rec F G H → Ran w T start limit x e array
  rec-stops {H} q = rw (q, none) (leaves-stopped start _ array (steps.rec-stops w F G H (limit - start) x s.result))

-- Where the first part has ended, the others decide.
module _ {w : ℕ} {F : Term} {start limit : ℕ} {x : Words} {end : ℕ} {y : Words} (p : Gave w F start limit x end y) {T G : Term} where
  pub seq-goes : {e : Option ℕ} {array : Words} → T ≡ seq F G → Ran w G end limit y e array → Ran w T start limit x e array
  seq-goes q =
      leaves-as
      (rw (q, held-evaluates p G (limit - end))
      (moves p (seq F G) G p.words (steps.seq-goes w F G (limit - start) x p.cycles p.words p.result)))

  pub par-stops-second : {e : Option ℕ} {array : Words} → Stopped w G start limit x → e ≡ None → T ≡ par F G →
      Ran w T start limit x e array
  par-stops-second {array} s none q =
      rw (q, none)
      (leaves-stopped start _ array (steps.par-stops-second w F G (limit - start) x p.cycles p.words p.result s.result))

  pub par-ends : {d n last : ℕ} {z array : Words} → Gave w G start limit x d z → T ≡ par F G → Well w T → n ≡ outs F → last ≡ max end d →
      array ≡ side_by_side y n z → Ran w T start limit x (Some last) array
  par-ends {n} {last} {array} r q typed count later same =
      let t = par-sides (rw q at typed) in
      let u = evaluate-length t.0 _ p.cycles x p.words p.result in
      let v = evaluate-length t.1 _ r.cycles x r.words r.result in
      let time : last ≡ start + max p.cycles r.cycles = omega (arith, p.time, r.time) in
      let held : array ≡ padded 16 (p.words ++ r.words) =
      same ∙ ((let a = p.held in let b = r.held in rw (a, b)) ∙ beside-padded p.words r.words n (u ∙ sym count) (omega (arith, t.2))) in
      rw q
      (leaves-ended start _ (max p.cycles r.cycles) (p.words ++ r.words) (Some last) array
      (steps.par-ends w F G (limit - start) x p.cycles r.cycles p.words r.words p.result r.result)
      (ap Some time) held)

  module _ {H : Term} where
    pub ite-then : {e : Option ℕ} {array : Words} → T ≡ ite F G H → (at y 0 ≡ 0 → ⊥) → Ran w G end limit x e array →
        Ran w T start limit x e array
    ite-then q h =
        leaves-as
        (rw q
        (moves p (ite F G H) G x (steps.ite-then w F G H (limit - start) x p.cycles p.words p.result (first_holds p h))))

    pub ite-else : {e : Option ℕ} {array : Words} → T ≡ ite F G H → at y 0 ≡ 0 → Ran w H end limit x e array →
        Ran w T start limit x e array
    ite-else q h =
        leaves-as
        (rw q
        (moves p (ite F G H) H x (steps.ite-else w F G H (limit - start) x p.cycles p.words p.result (first-fails p h))))

    -- Rec: a round that starts at one cycle.
    pub rec-last : {e : Option ℕ} {array : Words} → T ≡ rec F G H → (at y 0 ≡ 0 → ⊥) → Ran w G end limit x e array →
        Ran w T start limit x e array
    rec-last q h =
        leaves-as
        (rw q
        (moves p (rec F G H) G x (steps.rec-last w F G H (limit - start) x p.cycles p.words p.result (first_holds p h))))

    module _ (q : T ≡ rec F G H) (h : at y 0 ≡ 0) where
      pub rec-stops-body : {e : Option ℕ} {array : Words} → Stopped w H end limit x → e ≡ None → Ran w T start limit x e array
      rec-stops-body {array} s none =
          rw (q, none)
          (leaves-stopped start _ array
          (steps.rec-stops-body w F G H (limit - start) x p.cycles p.words p.result (first-fails p h) (rw (left p) s.result)))

      module _ {d : ℕ} {z : Words} (r : Gave w H end limit x d z) where
        body : evaluate w H (limit - start - p.cycles) x ≡ ended r.cycles r.words
        body = rw (left p) r.result

        pub rec-stops-fed : {array : Words} → d ≡ limit → Ran w T start limit x None array
        rec-stops-fed {array} u =
            rw q
            (leaves-stopped start _ array
            (steps.rec-stops-fed w F G H (limit - start) x p.cycles p.words p.result (first-fails p h) r.cycles r.words body
            (omega (arith, p.time, r.time, p.within))))

        pub rec-goes : (d ≡ limit → ⊥) → run_from (evaluate w T) start limit x ≡ run_from (evaluate w T) (d + 1) limit z
        rec-goes u =
            let m : ℕ = p.cycles + r.cycles + 1 in
            let n : limit - start - m ≡ limit - (d + 1) = omega (arith, p.time, r.time) in
            let t : start + m ≡ d + 1 = omega (arith, p.time, r.time) in
            rw (q, held-evaluates r (rec F G H) (limit - (d + 1)))
            (ap (later start)
            (steps.rec-goes w F G H (limit - start) x p.cycles p.words p.result (first-fails p h) r.cycles r.words body
            (omega (arith, p.time, r.time, r.within))) ∙
            (steps.later-later start m (evaluate w (rec F G H) (limit - start - m) r.words) ∙ rw (n, t)))

-- Rounds so far: the run from the start is the run from here on the words of now.
pub record Going (w : ℕ) (T : Term) (start limit : ℕ) (x : Words) (here : ℕ) (now : Words) : Type 0 where
  pub within : here ≤ limit
  pub same : run_from (evaluate w T) start limit x ≡ run_from (evaluate w T) here limit now
