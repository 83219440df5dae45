-- When the code reads what a format of records reads, and how a record names the fault of a part of a key. Being out of memory says nothing.
use Rattle.std.specs.Prelude.{◌≡◌, ⊤, Result, Ok, Err}
use Rattle.key_codec.specs.declared.fault.KeyFault.{KeyFault}
use Rattle.key_codec.specs.declared.fault.KeyFault.TheVariants as of_keys
use Rattle.record_codec.specs.declared.fault.RecordFault.{RecordFault}
use Rattle.record_codec.specs.declared.fault.RecordFault.TheVariants.{Short, Order, Key, Roots, Field, Long, NoMemory}

-- a key's fault; bytes that end are too short wherever they end
abbrev pub key_fault : KeyFault → RecordFault
key_fault of_keys.Short = Short
key_fault (of_keys.Kind kind) = Key (of_keys.Kind kind)
key_fault (of_keys.Range field) = Key (of_keys.Range field)
key_fault of_keys.Order = Key of_keys.Order
key_fault of_keys.NoMemory = NoMemory

-- the fault of a root that isn't a node's pointer; bytes that end are too short wherever they end
abbrev pub root_fault : KeyFault → RecordFault
root_fault of_keys.Short = Short
root_fault (of_keys.Kind kind) = Roots
root_fault (of_keys.Range field) = Roots
root_fault of_keys.Order = Roots
root_fault of_keys.NoMemory = NoMemory

-- Reading ends in this fault, or it is out of memory.
abbrev pub Fails : {Y : Type 0} → RecordFault → Result Y RecordFault → Type 0
Fails Short read = read ≡ Err Short
Fails Order read = read ≡ Err Order
Fails (Key fault) read = read ≡ Err (Key fault)
Fails Roots read = read ≡ Err Roots
Fails Field read = read ≡ Err Field
Fails Long read = read ≡ Err Long
Fails NoMemory read = ⊤

-- The result, seen by view, is what reading gives, or it is out of memory.
abbrev pub Gives : {X Y : Type 0} → (X → Y) → Result X RecordFault → Result Y RecordFault → Type 0
Gives view (Ok x) read = read ≡ Ok (view x)
Gives view (Err fault) read = Fails fault read
