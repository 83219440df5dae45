-- What a node holds once the planned blocks stand at its places: the keys of the set, over what it held before.
use Rattle.std.proofs.Common.{◌≡◌, ℕ, zero, suc, ◌+◌, true, cond, List, [], ◌∷◌, ◌++◌, Option, Some, None, Result, Ok, Err, refl, ap, sym, ◌∙◌, arith}
use Rattle.std.specs.Prelude.{◌||◌, All, IsSome}
use Rattle.std.specs.List.{list_all}
use Rattle.std.specs.Option.{option_map_or}
use Rattle.std.proofs.lemmas.Bool.{and_from, eq-eqb, lt-ltb}
use Rattle.std.proofs.lemmas.List.{append-nil}
use Rattle.std.proofs.lemmas.List.Elements.{All-head, All-tail}
use Rattle.vol_types.specs.Btrees.{btree_code}
use Rattle.vol_types.specs.KeyMaps.{Entries}
use Rattle.vol_types.specs.declared.keys.Key.{Key}
use Rattle.vol_types.specs.declared.pointers.NodePtr.{NodePtr}
use Rattle.vol_types.specs.declared.positions.Pos.{Pos}
use Rattle.record_codec.specs.declared.sets.SetHead.{SetHead}
use Rattle.record_codec.specs.declared.sets.SetRecord.{SetRecord}
use Rattle.record_codec.specs.Sets.{IsSet, head_of, set_format, set_in}
use Rattle.node_mem.specs.Nodes.{with_keys}
use Rattle.node_store.specs.declared.planning.Blocked.{Blocked}
use Rattle.node_store.specs.declared.sets.StoredSet.{StoredSet}
use Rattle.node_store.specs.declared.sets.StoredSets.{StoredSets}
use Rattle.node_store.specs.NodeContents.{NodeContent, content_if, content_with, entries_after, has_value, is_same_pos, is_wanted, keys_if, keys_of, may_hold, wanted_of}
use Rattle.node_store.specs.StoredSets.{sets_of}
use Rattle.node_store.specs.Plans.{HoldsAlone, HoldsBehind, IsReadAlone, IsReadBehind, blocks_for, set_stored}

-- What is encoded as a set is read as it.
abbrev AreReadAgain : Type 0
AreReadAgain = (set : SetRecord) (rest : List ℕ) → IsSet set → set_format.read (set_format.encode set ++ rest) ≡ Ok (set, rest)

read_again : (set : SetRecord) → AreReadAgain → IsSet set → set_in (set_format.encode set) ≡ Ok set
unfolding set_in
read_again set exact is =
    let e : set_format.read (set_format.encode set) ≡ Ok (set, []) = ap set_format.read (sym (append-nil (set_format.encode set))) ∙ exact set [] is in
    rw e

-- Where each key has a value, none is removed.
values_all : (keys : List Key) → All (λ key. IsSome key.value) keys → list_all has_value keys ≡ true
values_all [] all = refl
values_all (key ∷ keys) all = and_from _ _ (All-head (λ k. IsSome k.value) key keys all) (values_all keys (All-tail (λ k. IsSome k.value) key keys all))

holds_there : (n : ℕ) (keys : List Key) → (n ≡ 0 → All (λ key. IsSome key.value) keys) → may_hold n keys ≡ true
holds_there zero keys first = values_all keys (first refl)
holds_there (suc n) keys first = ap (λ b. b || list_all has_value keys) (lt-ltb 0 (suc n) (omega arith))

same_pos : (pos : Pos) → is_same_pos pos pos ≡ true
same_pos pos = and_from _ _ (and_from _ _ (eq-eqb pos.inode pos.inode refl) (eq-eqb pos.offset pos.offset refl)) (eq-eqb pos.snapshot pos.snapshot refl)

module _ (ptr : NodePtr) (set : SetRecord) (n sequence : ℕ) (exact : AreReadAgain) (is : IsSet set) (birth : set.birth ≡ ptr.birth) (level : set.level ≡ ptr.level)
    (first : n ≡ 0 → All (λ key. IsSome key.value) set.keys) where
  abbrev wanted : SetHead
  wanted = wanted_of set.btree set.least set.greatest ptr

  abbrev stored : StoredSet
  stored = set_stored n sequence (set_format.encode set)

  says : is_wanted wanted (head_of set) ≡ true
  says = and_from _ _ (and_from _ _ (and_from _ _ (and_from _ _ (eq-eqb set.birth ptr.birth birth) (eq-eqb (btree_code set.btree) (btree_code set.btree) refl)) (eq-eqb set.level ptr.level level)) (same_pos set.least)) (same_pos set.greatest)

  -- The set that is stored is one of the node, with its keys.
  keys_there : keys_of wanted stored ≡ Some set.keys
  keys_there = ap (keys_if wanted n) (read_again set exact is) ∙ ap (λ b. cond b (Some set.keys) None) (and_from _ _ says (holds_there n set.keys first))

  -- It is put over those before it.
  entries_more : (sets : List StoredSet) (before entries : Entries) → entries_after wanted sets before ≡ Ok entries → entries_after wanted (sets ++ stored ∷ []) before ≡ Ok (with_keys set.keys entries)
  entries_more [] before entries so_far =
      let same : before ≡ entries = cc in
      ap (λ o. option_map_or (λ keys. entries_after wanted [] (with_keys keys before)) o (Err n)) keys_there ∙ ap (λ (es : Entries). Ok (with_keys set.keys es)) same
  entries_more (s ∷ sets) before entries so_far = by (keys_of wanted s) so_far (λ b. entries_more sets b entries)
    where
      by : (o : Option (List Key)) → option_map_or (λ keys. entries_after wanted sets (with_keys keys before)) o (Err s.block) ≡ Ok entries
          → ((b : Entries) → entries_after wanted sets b ≡ Ok entries → entries_after wanted (sets ++ stored ∷ []) b ≡ Ok (with_keys set.keys entries))
          → option_map_or (λ keys. entries_after wanted (sets ++ stored ∷ []) (with_keys keys before)) o (Err s.block) ≡ Ok (with_keys set.keys entries)
      by None given further = cc
      by (Some keys) given further = further (with_keys keys before) given

  pub holds_alone : (id : List ℕ) (blocked : Blocked) → IsReadAlone id ptr stored blocked → HoldsAlone id ptr set blocked
  holds_alone id blocked alone read holds =
      ap (content_if wanted) (alone read holds) ∙ ap (content_with (blocks_for (set_format.encode set))) (entries_more [] [] [] refl)

  -- What the sets came to, where they came to a content.
  came_to : (end : ℕ) (entries : Result Entries ℕ) (content : NodeContent) → content_with end entries ≡ Ok content → (entries ≡ Ok content.entries) × (end ≡ content.end)
  came_to end (Err k) content given = cc
  came_to end (Ok entries) content given =
      let made : NodeContent = record { entries = entries; end = end } in
      let ok : Result NodeContent ℕ = Ok made in
      let both : ok ≡ Ok content = given in
      let same : made ≡ content = cc in
      (ap (λ (c : NodeContent). Ok c.entries) same, ap (λ (c : NodeContent). c.end) same)

  found_with : (found : Result StoredSets ℕ) (content : NodeContent) → content_if wanted found ≡ Ok content → (sets : StoredSets) × (found ≡ Ok sets) × (entries_after wanted sets.sets [] ≡ Ok content.entries) × (sets.end ≡ content.end)
  found_with (Err k) content given = cc
  found_with (Ok sets) content given = let parts = came_to sets.end (entries_after wanted sets.sets []) content given in (sets, refl, parts.0, parts.1)

  pub holds_behind : (id : List ℕ) (blocked : Blocked) → blocked.block ≡ n → IsReadBehind id ptr stored blocked → HoldsBehind id ptr set blocked
  holds_behind id blocked at behind before after entries was holds around =
      let found = found_with (sets_of before id ptr) (record { entries = entries; end = blocked.block }) was in
      let ends : found.0.end ≡ n = found.3 ∙ at in
      let there : sets_of before id ptr ≡ Ok (record { sets = found.0.sets; end = n }) = found.1 ∙ ap (λ e. Ok (record { sets = found.0.sets; end = e })) ends in
      ap (content_if wanted) (behind before after found.0.sets there holds around)
      ∙ ap (content_with (n + blocks_for (set_format.encode set))) (entries_more found.0.sets [] entries found.2)
      ∙ ap (λ k. Ok (record { entries = with_keys set.keys entries; end = k + blocks_for (set_format.encode set) })) (sym at)
