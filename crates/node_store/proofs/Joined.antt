-- Loops of the code as the definition goes: sets, parts, heads, and what sets make of entries.
use Rattle.std.proofs.Common.{◌≡◌, ℕ, zero, suc, ◌+◌, ◌-◌, ◌<◌, ◌≤◌, true, false, cond, List, [], ◌∷◌, ◌++◌, length, drop, get_or, Option, Some, None, Result, Err, refl, ap, sym, ◌∙◌, append_assoc, arith, drop-cons}
use Rattle.std.specs.Prelude.{option_and_then, option_map}
use Rattle.std.specs.Option.{option_map_or}
use Rattle.std.specs.List.{list_any}
use Rattle.std.proofs.lemmas.List.{append-nil}
use Rattle.sealed_block.specs.declared.heads.Head.{Head}
use Rattle.vol_types.specs.KeyMaps.{Entries}
use Rattle.vol_types.specs.declared.keys.Key.{Key}
use Rattle.record_codec.specs.declared.sets.SetHead.{SetHead}
use Rattle.node_mem.specs.Nodes.{with_keys}
use Rattle.node_store.specs.declared.opening.OpenBlock.{OpenBlock}
use Rattle.node_store.specs.declared.sets.StoredSet.{StoredSet}
use Rattle.node_store.specs.declared.sets.StoredSets.{StoredSets}
use Rattle.node_store.specs.NodeContents.{entries_after, keys_of}
use Rattle.node_store.specs.StoredSets.{Copies, first_head, part_of, parts_from, set_at, sets_from, shows_head, with_set}

-- sets, and those that were found behind them
abbrev pub joined : List StoredSet → StoredSets → StoredSets
joined sets found = record { sets = sets ++ found.sets; end = found.end }

-- One set more goes over from what is left to find.
pub join_more : (copies : Copies) (id : List ℕ) (birth count end : ℕ) (sets : List StoredSet) (set : StoredSet) (whole : StoredSets) → count < 16 → set_at copies id birth end ≡ Some set
    → joined sets (sets_from copies id birth (16 - count) end) ≡ whole → joined (sets ++ set ∷ []) (sets_from copies id birth (16 - suc count) (end + set.blocks)) ≡ whole
join_more copies id birth count end sets set whole within there so_far =
    let tail = sets_from copies id birth (16 - suc count) (end + set.blocks) in
    let one : sets_from copies id birth (16 - count) end ≡ with_set set tail =
    ap (λ n. sets_from copies id birth n end) (let e : 16 - count ≡ suc (16 - suc count) = omega (arith, within) in e)
    ∙ ap (λ o. option_map_or (λ s. with_set s (sets_from copies id birth (16 - suc count) (end + s.blocks))) o (record { sets = []; end = end })) there in
    ap (λ (all : List StoredSet). record { sets = all; end = tail.end }) (append_assoc sets (set ∷ []) tail.sets)
    ∙ ap (joined sets) (sym one) ∙ so_far

-- None is left to find.
pub join_none : (copies : Copies) (id : List ℕ) (birth count end : ℕ) (sets : List StoredSet) (whole : StoredSets) → count < 16 → set_at copies id birth end ≡ None
    → joined sets (sets_from copies id birth (16 - count) end) ≡ whole → record { sets = sets; end = end } ≡ whole
join_none copies id birth count end sets whole within none so_far =
    let here : sets_from copies id birth (16 - count) end ≡ record { sets = []; end = end } =
    ap (λ n. sets_from copies id birth n end) (let e : 16 - count ≡ suc (16 - suc count) = omega (arith, within) in e)
    ∙ ap (λ o. option_map_or (λ s. with_set s (sets_from copies id birth (16 - suc count) (end + s.blocks))) o (record { sets = []; end = end })) none in
    ap (λ (all : List StoredSet). record { sets = all; end = end }) (sym (append-nil sets))
    ∙ ap (joined sets) (sym here) ∙ so_far

-- So many sets were found as a bucket has blocks.
pub join_all : (copies : Copies) (id : List ℕ) (birth count end : ℕ) (sets : List StoredSet) (whole : StoredSets) → 16 ≤ count
    → joined sets (sets_from copies id birth (16 - count) end) ≡ whole → record { sets = sets; end = end } ≡ whole
join_all copies id birth count end sets whole all so_far =
    let here : sets_from copies id birth (16 - count) end ≡ record { sets = []; end = end } =
    ap (λ n. sets_from copies id birth n end) (let e : 16 - count ≡ zero = omega (arith, all) in e) in
    ap (λ (some : List StoredSet). record { sets = some; end = end }) (sym (append-nil sets))
    ∙ ap (joined sets) (sym here) ∙ so_far

-- The first head behind a block: here it is, it isn't here, or there are no more blocks.
pub head_here : (copies : Copies) (id : List ℕ) (birth n : ℕ) (whole : Option ℕ) → n < 16 → list_any (shows_head id birth n) copies ≡ true → first_head copies id birth (16 - n) n ≡ whole → Some n ≡ whole
head_here copies id birth n whole within here so_far =
    sym (ap (λ b. cond b (Some n) (first_head copies id birth (16 - suc n) (suc n))) here)
    ∙ ap (λ m. first_head copies id birth m n) (let e : suc (16 - suc n) ≡ 16 - n = omega (arith, within) in e) ∙ so_far

pub head_next : (copies : Copies) (id : List ℕ) (birth n : ℕ) (whole : Option ℕ) → n < 16 → list_any (shows_head id birth n) copies ≡ false → first_head copies id birth (16 - n) n ≡ whole
    → first_head copies id birth (16 - (n + 1)) (n + 1) ≡ whole
head_next copies id birth n whole within here so_far =
    ap (λ m. first_head copies id birth (16 - m) m) (let e : n + 1 ≡ suc n = omega arith in e)
    ∙ sym (ap (λ b. cond b (Some n) (first_head copies id birth (16 - suc n) (suc n))) here)
    ∙ ap (λ m. first_head copies id birth m n) (let e : suc (16 - suc n) ≡ 16 - n = omega (arith, within) in e) ∙ so_far

pub head_end : (copies : Copies) (id : List ℕ) (birth n : ℕ) (whole : Option ℕ) → 16 ≤ n → first_head copies id birth (16 - n) n ≡ whole → None ≡ whole
head_end copies id birth n whole past so_far = ap (λ m. first_head copies id birth m n) (let e : zero ≡ 16 - n = omega (arith, past) in e) ∙ so_far

-- The parts behind one: it is there, it isn't, or there are no more.
pub part_next : (copies : Copies) (first : Head) (n p : ℕ) (block : OpenBlock) (so_far : List ℕ) (whole : Option (List ℕ)) → p < first.parts → Some block ≡ part_of copies first n p
    → option_map (λ rest. so_far ++ rest) (parts_from copies first n (first.parts - p) p) ≡ whole
    → option_map (λ rest. (so_far ++ block.payload) ++ rest) (parts_from copies first n (first.parts - (p + 1)) (p + 1)) ≡ whole
part_next copies first n p block so_far whole within there is =
    ap (λ m. option_map (λ rest. (so_far ++ block.payload) ++ rest) (parts_from copies first n (first.parts - m) m)) (let e : p + 1 ≡ suc p = omega arith in e)
    ∙ moved (parts_from copies first n (first.parts - suc p) (suc p))
    ∙ ap (λ o. option_map (λ rest. so_far ++ rest) (option_and_then (λ (b : OpenBlock). option_map (λ rest. b.payload ++ rest) (parts_from copies first n (first.parts - suc p) (suc p))) o)) there
    ∙ ap (λ m. option_map (λ rest. so_far ++ rest) (parts_from copies first n m p)) (let e : suc (first.parts - suc p) ≡ first.parts - p = omega (arith, within) in e)
    ∙ is
  where
    moved : (o : Option (List ℕ)) → option_map (λ rest. (so_far ++ block.payload) ++ rest) o ≡ option_map (λ rest. so_far ++ rest) (option_map (λ rest. block.payload ++ rest) o)
    moved None = refl
    moved (Some rest) = ap Some (append_assoc so_far block.payload rest)

pub part_lacks : (copies : Copies) (first : Head) (n p : ℕ) (so_far : List ℕ) (whole : Option (List ℕ)) → p < first.parts → None ≡ part_of copies first n p
    → option_map (λ rest. so_far ++ rest) (parts_from copies first n (first.parts - p) p) ≡ whole → None ≡ whole
part_lacks copies first n p so_far whole within none is =
    ap (λ o. option_map (λ rest. so_far ++ rest) (option_and_then (λ (b : OpenBlock). option_map (λ rest. b.payload ++ rest) (parts_from copies first n (first.parts - suc p) (suc p))) o)) none
    ∙ ap (λ m. option_map (λ rest. so_far ++ rest) (parts_from copies first n m p)) (let e : suc (first.parts - suc p) ≡ first.parts - p = omega (arith, within) in e)
    ∙ is

pub parts_end : (copies : Copies) (first : Head) (n p : ℕ) (so_far : List ℕ) (whole : Option (List ℕ)) → first.parts ≤ p
    → option_map (λ rest. so_far ++ rest) (parts_from copies first n (first.parts - p) p) ≡ whole → Some so_far ≡ whole
parts_end copies first n p so_far whole past is =
    ap Some (sym (append-nil so_far))
    ∙ ap (λ m. option_map (λ rest. so_far ++ rest) (parts_from copies first n m p)) (let e : zero ≡ first.parts - p = omega (arith, past) in e)
    ∙ is

-- The sets that are left to merge: one more is taken, or it is at fault.
pub merge_more : (wanted : SetHead) (sets : List StoredSet) (i : ℕ) (set : StoredSet) (keys : List Key) (entries : Entries) (whole : Result Entries ℕ) → i < length sets → get_or sets i set ≡ set → keys_of wanted set ≡ Some keys
    → entries_after wanted (drop i sets) entries ≡ whole → entries_after wanted (drop (suc i) sets) (with_keys keys entries) ≡ whole
merge_more wanted sets i set keys entries whole within at is so_far =
    sym (ap (λ o. option_map_or (λ ks. entries_after wanted (drop (suc i) sets) (with_keys ks entries)) o (Err set.block)) is)
    ∙ ap (λ (list : List StoredSet). entries_after wanted list entries) (sym (drop-cons sets i set within ∙ ap (λ (s : StoredSet). s ∷ drop (suc i) sets) at)) ∙ so_far

pub merge_fault : (wanted : SetHead) (sets : List StoredSet) (i : ℕ) (set : StoredSet) (entries : Entries) (whole : Result Entries ℕ) → i < length sets → get_or sets i set ≡ set → keys_of wanted set ≡ None
    → entries_after wanted (drop i sets) entries ≡ whole → whole ≡ Err set.block
merge_fault wanted sets i set entries whole within at is so_far =
    sym so_far ∙ ap (λ (list : List StoredSet). entries_after wanted list entries) (drop-cons sets i set within ∙ ap (λ (s : StoredSet). s ∷ drop (suc i) sets) at)
    ∙ ap (λ o. option_map_or (λ ks. entries_after wanted (drop (suc i) sets) (with_keys ks entries)) o (Err set.block)) is
