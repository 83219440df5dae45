-- What a node's bucket shows on each of its places: block by block what opens there.
use Rattle.std.specs.Prelude.{ℕ, zero, suc, ◌+◌, List, [], ◌∷◌, ◌++◌, map, Option, None, option_and_then, option_map, slice_index_or}
use Rattle.sealed_block.specs.Opening.{opened, payload_in}
use Rattle.vol_types.specs.Limits.{bucket_blocks}
use Rattle.vol_types.specs.declared.pointers.Place.{Place}
use Rattle.node_store.specs.declared.opening.OpenBlock.{OpenBlock}

-- what is read in each block of each device, if there is such a block
abbrev pub Reading : Type 0
Reading = ℕ → ℕ → Option (List ℕ)

-- what a block's bytes show: the head and the payload, if it opens
abbrev pub shown_in : List ℕ → Option OpenBlock
shown_in bytes = option_map (λ head. record { head = head; payload = payload_in bytes }) (opened bytes)

-- what block n of the bucket at a place shows
abbrev pub shown_at : Reading → Place → ℕ → Option OpenBlock
shown_at read place n = option_and_then shown_in (read place.dev (place.block + n))

-- what the first so many blocks of the bucket at a place show
abbrev pub shown_below : Reading → Place → ℕ → List (Option OpenBlock)
shown_below read place zero = []
shown_below read place (suc n) = shown_below read place n ++ shown_at read place n ∷ []

-- the copy at a place: what each block of the bucket there shows
unfoldable pub copy_at : Reading → Place → List (Option OpenBlock)
copy_at read place = shown_below read place bucket_blocks

-- the copies at places
abbrev pub copies_at : Reading → List Place → List (List (Option OpenBlock))
copies_at read places = map (copy_at read) places

-- what block n of a copy shows; behind its end is nothing
abbrev pub block_in : List (Option OpenBlock) → ℕ → Option OpenBlock
block_in copy n = slice_index_or copy n None
