-- Law: what an unfinished run leaves and what an ended one does. Cited by all who run a term. Assumes nothing.
use Rattle.std.proofs.Common.{ℕ, ◌+◌, ◌≡◌, Option, Some, None, refl}
use Rattle.meaning.specs.Choices.{padded}
use Rattle.meaning.specs.Words.{Words}
use Rattle.meaning.specs.Cycles.{Result as Run, unfinished, ended, later}
use Rattle.leaves.specs.Results.{Leaves}

-- What an unfinished result leaves, and what an ended one does.
pub leaves-stopped : (s : ℕ) (r : Run) (array : Words) → r ≡ unfinished → Leaves (later s r) None array
leaves-stopped s r array e = rw e record { end = refl; words = λ c ws q. cc }

pub leaves-ended : (s : ℕ) (r : Run) (c : ℕ) (ws : Words) (e : Option ℕ) (array : Words) → r ≡ ended c ws → e ≡ Some (s + c) →
    array ≡ padded 16 ws → Leaves (later s r) e array
leaves-ended s r c ws e array p q h = rw p record { end = q; words = λ d vs z. cc }

-- Equal results leave the same.
pub leaves-as : {r s : Run} {e : Option ℕ} {array : Words} → r ≡ s → Leaves s e array → Leaves r e array
leaves-as q l = rw q l
