-- The lengths of parts add.
use Rattle.std.proofs.Common.{◌≡◌, ◌+◌, List, ◌++◌, sum_by, arith}
use Rattle.std.proofs.lemmas.List.Sums.{sum_by-append}
use Rattle.vol_types.specs.Lengths.{key_length_of}
use Rattle.vol_types.specs.Sets.{set_length_of}
use Rattle.vol_types.specs.declared.keys.Key.{Key}
use Rattle.vol_types.specs.declared.keys.Update.{Update}
use Rattle.vol_types.specs.declared.pointers.NodePtr.{NodePtr}
use Rattle.record_codec.specs.Entries.{entry_length_of, update_length_of}

-- An entry with more updates is longer by theirs.
pub entry_length_of-append : (roots : List NodePtr) (first second : List Update) → entry_length_of roots (first ++ second) ≡ entry_length_of roots first + sum_by update_length_of second
entry_length_of-append roots first second = omega (arith, sum_by-append update_length_of first second)

-- A set with more keys is longer by theirs.
pub set_length_of-append : (first second : List Key) → set_length_of (first ++ second) ≡ set_length_of first + sum_by (λ key. key_length_of key.value) second
set_length_of-append first second = omega (arith, sum_by-append (λ (key : Key). key_length_of key.value) first second)
