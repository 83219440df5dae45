-- Entries of which none is an extent or hole of more blocks than a number, one after the other.
use Rattle.std.proofs.Common.{ℕ, ◌≤◌, List, [], ◌∷◌}
use Rattle.std.specs.Prelude.{All}
use Rattle.std.proofs.lemmas.List.Elements.{All-cons, All-nil}
use Rattle.vol_types.specs.declared.positions.Pos.{Pos}
use Rattle.vol_types.specs.declared.values.Value.{Value}
use Rattle.key_meaning.specs.Blocks.{blocks_of}

-- No value of the entries is an extent or hole of more blocks than this.
abbrev pub AreUpTo : ℕ → List (Pos × Value) → Type 0
AreUpTo longest entries = All (λ (entry : Pos × Value). blocks_of entry.1 ≤ longest) entries

pub none_up_to : (longest : ℕ) → AreUpTo longest []
none_up_to longest = All-nil (λ (entry : Pos × Value). blocks_of entry.1 ≤ longest)

-- So it is of entries with a further one before them.
pub up_to_more : (longest : ℕ) (pos : Pos) (value : Value) (entries : List (Pos × Value)) → blocks_of value ≤ longest → AreUpTo longest entries → AreUpTo longest ((pos, value) ∷ entries)
up_to_more longest pos value entries le all = All-cons (λ (entry : Pos × Value). blocks_of entry.1 ≤ longest) (pos, value) entries le all
