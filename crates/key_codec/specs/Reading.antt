-- When the code reads what a format reads. Being out of memory says nothing.
use Rattle.std.specs.Prelude.{◌≡◌, ⊤, Result, Ok, Err}
use Rattle.key_codec.specs.declared.fault.KeyFault.{KeyFault}
use Rattle.key_codec.specs.declared.fault.KeyFault.TheVariants.{Short, Kind, Range, Order, NoMemory}

-- Reading ends in this fault, or it is out of memory.
abbrev pub Fails : {Y : Type 0} → KeyFault → Result Y KeyFault → Type 0
Fails Short read = read ≡ Err Short
Fails (Kind kind) read = read ≡ Err (Kind kind)
Fails (Range field) read = read ≡ Err (Range field)
Fails Order read = read ≡ Err Order
Fails NoMemory read = ⊤

-- The result, seen by view, is what reading gives, or it is out of memory.
abbrev pub Gives : {X Y : Type 0} → (X → Y) → Result X KeyFault → Result Y KeyFault → Type 0
Gives view (Ok x) read = read ≡ Ok (view x)
Gives view (Err fault) read = Fails fault read
