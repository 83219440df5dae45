use Rattle.std.proofs.Common.{◌≡◌, true}
use Rattle.key_meaning.specs.EntryLaws.{all-with_update}
use Rattle.key_meaning.proofs.shared.entries_stay_as_they_are.Goals as goal

pub returns : goal.returns
returns c test = all-with_update (λ entry. test entry ≡ true)
