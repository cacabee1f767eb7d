-- `all` answers true where every word is below the bound, and false where one is not.
use Rattle.std.proofs.Common.{◌^◌, ltb, refl, rules}
use Rattle.std.proofs.lemmas.List.Recursion.{and_is}
use Rattle.meaning.specs.Choices.{all_below}
use Rattle.words.proofs.Width.all_fit.Goals as goal

pub returns : goal.returns
unfolding all_below
returns c =
    let b = 2 ^ c.args.self.bits in
    and_is (all_below b) (λ x. ltb x b) refl (λ _ _. refl) c.args.words.now 0 _ (search rules) (search rules)
