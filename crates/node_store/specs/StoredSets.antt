-- The sets of a node: which ones the copies of its bucket hold, one behind the other, and where they end.
use Rattle.std.specs.Prelude.{ℕ, zero, suc, ◌+◌, ◌-◌, Bool, false, ◌&&◌, ◌==◌, nat_lt, nat_le, if◌then◌else◌, List, [], ◌∷◌, ◌++◌, Option, Some, None, option_and_then, option_map, Result, Ok, Err}
use Rattle.std.specs.Option.{option_map_or, option_or}
use Rattle.std.specs.List.{list_any}
use Rattle.std.specs.Str.{bytes_eq}
use Rattle.sha2.specs.Sha256.{sha256}
use Rattle.sealed_block.specs.declared.heads.Head.{Head}
use Rattle.vol_types.specs.Limits.{bucket_blocks}
use Rattle.node_store.specs.declared.opening.OpenBlock.{OpenBlock}
use Rattle.node_store.specs.declared.sets.StoredSet.{StoredSet}
use Rattle.node_store.specs.declared.sets.StoredSets.{StoredSets}
use Rattle.sealed_block.specs.Parts.{continues}
use Rattle.node_store.specs.Copies.{Reading, block_in, copies_at}
use Rattle.vol_types.specs.declared.pointers.NodePtr.{NodePtr}

-- the copies of a node's bucket, one for each place
abbrev pub Copies : Type 0
Copies = List (List (Option OpenBlock))

-- whether a head is that of the first block of a set of the node, at block n of its bucket
abbrev pub is_set_head : List ℕ → ℕ → ℕ → Head → Bool
is_set_head id birth n head =
    head.kind == 3 && head.version == 1 && head.part == 0 && bytes_eq head.id id && head.owner == birth && head.number == n

-- whether a head begins a set of the node at block n, which ends behind it within the bucket
abbrev pub begins : List ℕ → ℕ → ℕ → Head → Bool
begins id birth n head =
    is_set_head id birth n head && continues head 0 head && nat_lt n (n + head.parts) && nat_le (n + head.parts) bucket_blocks

-- the first result that a function gives on the members of a list, if it gives one
abbrev pub first_of : {A B : Type 0} → (A → Option B) → List A → Option B
first_of give [] = None
first_of give (x ∷ xs) = option_or (give x) (first_of give xs)

-- the block, if it is part p of a record
abbrev pub part_if : Head → ℕ → OpenBlock → Option OpenBlock
part_if first p block = if continues first p block.head then Some block else None

-- part p of the record that begins at block n, if a copy has that part
abbrev pub part_in : Head → ℕ → ℕ → List (Option OpenBlock) → Option OpenBlock
part_in first n p copy = option_and_then (part_if first p) (block_in copy (n + p))

-- part p of the record: the first copy that has it counts
abbrev pub part_of : Copies → Head → ℕ → ℕ → Option OpenBlock
part_of copies first n p = first_of (part_in first n p) copies

-- the joined payloads of so many parts from part p on, if all are there
abbrev pub parts_from : Copies → Head → ℕ → ℕ → ℕ → Option (List ℕ)
parts_from copies first n zero p = Some []
parts_from copies first n (suc more) p =
    option_and_then (λ block. option_map (λ rest. block.payload ++ rest) (parts_from copies first n more (suc p))) (part_of copies first n p)

-- the set with this joined payload, if that has the record's digest
abbrev pub set_with : ℕ → Head → List ℕ → Option StoredSet
set_with n first payload =
    if bytes_eq first.whole (sha256 payload)
    then Some (record { block = n; blocks = first.parts; sequence = first.sequence; payload = payload })
    else None

-- the set whose first block is this one, with each further part from the first copy that has it
abbrev pub set_begun : Copies → List ℕ → ℕ → ℕ → OpenBlock → Option StoredSet
set_begun copies id birth n first =
    if begins id birth n first.head
    then option_and_then (λ rest. set_with n first.head (first.payload ++ rest)) (parts_from copies first.head n (first.head.parts - 1) 1)
    else None

-- the set that begins in block n of a copy
abbrev pub set_from : Copies → List ℕ → ℕ → ℕ → List (Option OpenBlock) → Option StoredSet
set_from copies id birth n copy = option_and_then (set_begun copies id birth n) (block_in copy n)

-- the set at block n: the first copy in which one begins counts
abbrev pub set_at : Copies → List ℕ → ℕ → ℕ → Option StoredSet
set_at copies id birth n = first_of (set_from copies id birth n) copies

-- the sets with one more before them
abbrev pub with_set : StoredSet → StoredSets → StoredSets
with_set set found = record { sets = set ∷ found.sets; end = found.end }

-- the sets from block n on, so many at most: each begins behind the one before it, up to the first block where none is
abbrev pub sets_from : Copies → List ℕ → ℕ → ℕ → ℕ → StoredSets
sets_from copies id birth zero n = record { sets = []; end = n }
sets_from copies id birth (suc more) n =
    option_map_or (λ set. with_set set (sets_from copies id birth more (n + set.blocks))) (set_at copies id birth n) (record { sets = []; end = n })

-- whether a copy shows in block n the first block of a set of the node, whether or not its other parts are there
abbrev pub shows_head : List ℕ → ℕ → ℕ → List (Option OpenBlock) → Bool
shows_head id birth n copy = option_map_or (λ block. is_set_head id birth n block.head) (block_in copy n) false

-- the first of so many blocks from block n on where a copy shows the first block of a set
abbrev pub first_head : Copies → List ℕ → ℕ → ℕ → ℕ → Option ℕ
first_head copies id birth zero n = None
first_head copies id birth (suc more) n =
    if list_any (shows_head id birth n) copies then Some n else first_head copies id birth more (suc n)

-- The sets that were found, where there is one at least and behind the block at which they end none begins on any copy: a crash
-- may leave a part of a new set at their end, but none further behind. Else the block at fault.
abbrev pub without_gap : StoredSets → Option ℕ → Result StoredSets ℕ
without_gap found (Some n) = Err n
without_gap found None = Ok found

abbrev pub if_some : StoredSets → Option ℕ → List StoredSet → Result StoredSets ℕ
if_some found gap [] = Err 0
if_some found gap (set ∷ sets) = without_gap found gap

-- the sets that the copies of a node's bucket hold, or the block at fault
unfoldable pub sets_in : Copies → List ℕ → ℕ → Result StoredSets ℕ
sets_in copies id birth =
    let found = sets_from copies id birth bucket_blocks 0 in
    if_some found (first_head copies id birth (bucket_blocks - suc found.end) (suc found.end)) found.sets

-- the sets of a node, by what is read in the blocks of the devices, or the block of its bucket at fault
abbrev pub sets_of : Reading → List ℕ → NodePtr → Result StoredSets ℕ
sets_of read id ptr = sets_in (copies_at read ptr.places) id ptr.birth
