-- The nodes of a level with more updates are read as they were, with these updates of their keys; and nodes above the leaves as they were.
use Rattle.std.proofs.Common.{◌≡◌, ℕ, zero, suc, Bool, true, false, cond, List, [], ◌∷◌, ◌++◌, map, Result, Ok, refl, sym, ap, subst, ◌∙◌}
use Rattle.std.specs.Prelude.{◌&&◌, ◌==◌, All, ⊤, unwrap_or}
use Rattle.std.specs.List.{AllByRecursion, filter}
use Rattle.std.specs.Map.{keys_of, values_of}
use Rattle.std.proofs.lemmas.Bool.{and_parts, ne_eqb, true≢false}
use Rattle.std.proofs.lemmas.List.Elements.{filter-append}
use Rattle.std.proofs.lemmas.List.Sums.{fold-append}
use Rattle.key_codec.specs.Combined.{bind_ok, ok_is}
use Rattle.key_codec.specs.Formats.{◌>>=◌}
use Rattle.node_mem.specs.CountLaws.{keys-put_at}
use Rattle.node_store.specs.NodeContents.{NodeContent}
use Rattle.tree_nodes.specs.Levels.{Level}
use Rattle.vol_types.specs.Btrees.{btree_code}
use Rattle.vol_types.specs.KeyMaps.{Entries}
use Rattle.vol_types.specs.MapLaws.{IsMap-put_at}
use Rattle.vol_types.specs.Maps.{IsMap, put_at}
use Rattle.vol_types.specs.PositionLaws.{pos_total}
use Rattle.vol_types.specs.Positions.{greatest_pos, is_within, next_pos, pos_cmp}
use Rattle.vol_types.specs.declared.keys.Update.{Update}
use Rattle.vol_types.specs.declared.pointers.NodePtr.{NodePtr}
use Rattle.vol_types.specs.declared.pointers.Place.{Place}
use Rattle.vol_types.specs.declared.positions.Btree.{Btree}
use Rattle.vol_types.specs.declared.positions.Pos.{Pos}
use Rattle.image_view.specs.Trees.{NodeRead, SetsOf, Wanted, ends_of, is_of_node, read_level, read_node, updated}

-- ---- definitions

-- the first position behind a node
abbrev pub next_of : Pos → Pos
next_of greatest = unwrap_or (next_pos greatest) greatest_pos

-- the ends of nodes that were read
abbrev pub greatests : List NodeRead → List Pos
greatests reads = map (λ read. read.greatest) reads

-- what a node that was read is looked for as
abbrev pub wanted_in : Btree → Pos → NodeRead → Wanted
wanted_in btree least read = record { btree = btree; least = least; greatest = read.greatest; pointer = read.pointer }

-- a node that was read, with updates of its keys
abbrev pub read_with : Btree → List Update → Pos → NodeRead → NodeRead
read_with btree updates least read = record { greatest = read.greatest; pointer = read.pointer; entries = updated (filter (is_of_node (wanted_in btree least read)) updates) read.entries; end = read.end }

-- nodes that were read, each behind the one before it, with updates of their keys
abbrev pub reads_with : Btree → List Update → Pos → List NodeRead → List NodeRead
reads_with btree updates least [] = []
reads_with btree updates least (read ∷ reads) = read_with btree updates least read ∷ reads_with btree updates (next_of read.greatest) reads

-- The position is one of those from the least to the greatest.
abbrev pub Lies : Pos → Pos → Pos → Type 0
Lies least greatest pos = is_within least greatest pos ≡ true

-- Entries rise, and lie within a node.
pub record AreOfNode (least greatest : Pos) (entries : Entries) : Type 0 where
  pub rises : IsMap pos_cmp entries
  pub covered : All (Lies least greatest) (keys_of entries)

-- The sets of each node come to entries of it.
abbrev pub AreOrdered : SetsOf → Type 0
AreOrdered sets = (wanted : Wanted) (content : NodeContent) → sets wanted ≡ Ok content → AreOfNode wanted.least wanted.greatest content.entries

-- A node of the level was read, which begins at the least position.
pub record IsRead (level : ℕ) (least : Pos) (read : NodeRead) : Type 0 where
  pub numbered : read.pointer.level ≡ level
  pub entries_are : AreOfNode least read.greatest read.entries

-- Nodes of the level were read, each behind the one before it.
abbrev pub AreRead : ℕ → Pos → List NodeRead → Type 0
AreRead level least [] = ⊤
AreRead level least (read ∷ reads) = IsRead level least read × AreRead level (next_of read.greatest) reads

-- The pointers are of a level.
abbrev pub AreNumbered : ℕ → List NodePtr → Type 0
AreNumbered level pointers = AllByRecursion (λ (pointer : NodePtr). pointer.level ≡ level) pointers

-- ---- updates of one node

-- Updates after others are made over them.
updated-append : (test : Update → Bool) (one other : List Update) (entries : Entries) → updated (filter test (one ++ other)) entries ≡ updated (filter test other) (updated (filter test one) entries)
updated-append test one other entries =
    ap (λ updates. updated updates entries) (filter-append test one other)
    ∙ fold-append (λ (made : Entries) (update : Update). put_at pos_cmp update.pos update.value made) entries (filter test one) (filter test other)

-- An update of a node's keys lies within it.
lies_there : (wanted : Wanted) (update : Update) → is_of_node wanted update ≡ true → Lies wanted.least wanted.greatest update.pos
lies_there wanted update of =
    let a = and_parts (btree_code update.btree == btree_code wanted.btree) (update.level == wanted.pointer.level && is_within wanted.least wanted.greatest update.pos) of in
    (and_parts (update.level == wanted.pointer.level) (is_within wanted.least wanted.greatest update.pos) a.1).1

-- Updates of its keys leave entries of a node.
of_node-updated : (wanted : Wanted) (updates : List Update) (entries : Entries) → AreOfNode wanted.least wanted.greatest entries → AreOfNode wanted.least wanted.greatest (updated (filter (is_of_node wanted) updates) entries)
of_node-updated wanted [] entries are = are
of_node-updated wanted (update ∷ updates) entries are = by (is_of_node wanted update) refl (of_node-updated wanted updates)
  where
    by : (b : Bool) → is_of_node wanted update ≡ b → ((es : Entries) → AreOfNode wanted.least wanted.greatest es → AreOfNode wanted.least wanted.greatest (updated (filter (is_of_node wanted) updates) es))
        → AreOfNode wanted.least wanted.greatest (updated (cond b (update ∷ filter (is_of_node wanted) updates) (filter (is_of_node wanted) updates)) entries)
    by true of later = later (put_at pos_cmp update.pos update.value entries) (record {
      rises = IsMap-put_at pos_total update.pos update.value entries are.rises;
      covered = keys-put_at (Lies wanted.least wanted.greatest) update.pos update.value entries are.covered (lies_there wanted update of);
    })
    by false of later = later entries are

-- ---- updates of nodes

-- Nodes with updates end where they did.
pub greatests-with : (btree : Btree) (updates : List Update) (least : Pos) (reads : List NodeRead) → greatests (reads_with btree updates least reads) ≡ greatests reads
greatests-with btree updates least [] = refl
greatests-with btree updates least (read ∷ reads) = ap (λ ends. read.greatest ∷ ends) (greatests-with btree updates (next_of read.greatest) reads)

-- So do their sets.
pub ends-with : (btree : Btree) (updates : List Update) (least : Pos) (reads : List NodeRead) → ends_of (reads_with btree updates least reads) ≡ ends_of reads
ends-with btree updates least [] = refl
ends-with btree updates least (read ∷ reads) = ap (λ ends. record { birth = read.pointer.birth; block = read.end } ∷ ends) (ends-with btree updates (next_of read.greatest) reads)

-- Nodes with some updates and then others are those with both.
pub reads_with-append : (btree : Btree) (one other : List Update) (least : Pos) (reads : List NodeRead) → reads_with btree (one ++ other) least reads ≡ reads_with btree other least (reads_with btree one least reads)
reads_with-append btree one other least [] = refl
reads_with-append btree one other least (read ∷ reads) =
    let entries = updated-append (is_of_node (wanted_in btree least read)) one other read.entries in
    let later = reads_with-append btree one other (next_of read.greatest) reads in
    λ i. record { greatest = read.greatest; pointer = read.pointer; entries = entries i; end = read.end } ∷ later i

-- With updates they are nodes still.
pub are_read-with : (btree : Btree) (level : ℕ) (updates : List Update) (least : Pos) (reads : List NodeRead) → AreRead level least reads → AreRead level least (reads_with btree updates least reads)
are_read-with btree level updates least [] are = tt
are_read-with btree level updates least (read ∷ reads) are = (
  record { numbered = are.0.numbered; entries_are = of_node-updated (wanted_in btree least read) updates read.entries are.0.entries_are },
  are_read-with btree level updates (next_of read.greatest) reads are.1,
)

-- ---- updates of leaves alone

off : (a b c : Bool) → b ≡ false → (a && (b && c)) ≡ false
off true true c is = absurd (true≢false is)
off true false c is = refl
off false b c is = refl

-- A node above the leaves has no keys among the updates of leaves.
no_keys : (wanted : Wanted) (level : ℕ) (updates : List Update) → wanted.pointer.level ≡ suc level → AllByRecursion (λ (update : Update). update.level ≡ 0) updates → filter (is_of_node wanted) updates ≡ []
no_keys wanted level [] numbered leaves = refl
no_keys wanted level (update ∷ updates) numbered leaves =
    let apart : (update.level == wanted.pointer.level) ≡ false = ne_eqb update.level wanted.pointer.level (λ same. zero_no_suc (sym leaves.0 ∙ same ∙ numbered)) in
    ap (λ b. cond b (update ∷ filter (is_of_node wanted) updates) (filter (is_of_node wanted) updates))
    (off (btree_code update.btree == btree_code wanted.btree) (update.level == wanted.pointer.level) (is_within wanted.least wanted.greatest update.pos) apart)
    ∙ no_keys wanted level updates numbered leaves.1
  where
    zero_no_suc : zero ≡ suc level → ⊥
    zero_no_suc same = absurd cc

-- So nodes above the leaves stay as they are.
pub above_leaves : (btree : Btree) (level : ℕ) (updates : List Update) (least : Pos) (reads : List NodeRead) → AllByRecursion (λ (update : Update). update.level ≡ 0) updates → AreRead (suc level) least reads
    → reads_with btree updates least reads ≡ reads
above_leaves btree level updates least [] leaves are = refl
above_leaves btree level updates least (read ∷ reads) leaves are =
    let none = no_keys (wanted_in btree least read) level updates are.0.numbered leaves in
    let later = above_leaves btree level updates (next_of read.greatest) reads leaves are.1 in
    λ i. record { greatest = read.greatest; pointer = read.pointer; entries = updated (none i) read.entries; end = read.end } ∷ later i

-- ---- reading

-- a node as it is made of what its sets come to
abbrev made_of : List Update → Wanted → NodeContent → NodeRead
made_of updates wanted content = record { greatest = wanted.greatest; pointer = wanted.pointer; entries = updated (filter (is_of_node wanted) updates) content.entries; end = content.end }

-- a node that was read, and no fault
abbrev ok_read : NodeRead → Result NodeRead Place
ok_read read = Ok read

-- nodes that were read, and no fault
abbrev pub ok_reads : List NodeRead → Result (List NodeRead) Place
ok_reads reads = Ok reads

module _ (sets : SetsOf) (updates : List Update) (btree : Btree) where
  -- A node that was read ends where it was to, and was read of its sets.
  node_is_read : (least : Pos) (node : Pos × NodePtr) (read : NodeRead) → read_node sets updates (record { btree = btree; least = least; greatest = node.0; pointer = node.1 }) ≡ Ok read
      → (content : NodeContent) × (sets (record { btree = btree; least = least; greatest = node.0; pointer = node.1 }) ≡ Ok content) × (made_of updates (record { btree = btree; least = least; greatest = node.0; pointer = node.1 }) content ≡ read)
  node_is_read least node read is =
      let wanted : Wanted = record { btree = btree; least = least; greatest = node.0; pointer = node.1 } in
      let step = bind_ok (sets wanted) (λ content. ok_read (made_of updates wanted content)) read is in
      (step.0, step.1, ok_is (made_of updates wanted step.0) read step.2)

  -- A level that was read has nodes of it, which end where they were to.
  pub level_is_read : AreOrdered sets → (level : ℕ) (least : Pos) (nodes : Level) (reads : List NodeRead) → AreNumbered level (values_of nodes) → read_level sets updates btree least nodes ≡ Ok reads → AreRead level least reads × (greatests reads ≡ keys_of nodes)
  level_is_read ordered level least [] reads numbered is = subst (λ rs. AreRead level least rs × (greatests rs ≡ [])) (ok_is [] reads is) (tt, refl)
  level_is_read ordered level least (node ∷ nodes) reads numbered is =
      let wanted : Wanted = record { btree = btree; least = least; greatest = node.0; pointer = node.1 } in
      let with_first : NodeRead → List NodeRead → Result (List NodeRead) Place = λ first others. Ok (first ∷ others) in
      let rest_by : NodeRead → Result (List NodeRead) Place = λ first. read_level sets updates btree (next_of node.0) nodes >>= with_first first in
      let first = bind_ok (read_node sets updates wanted) rest_by reads is in
      let made = node_is_read least node first.0 first.1 in
      let rest = bind_ok (read_level sets updates btree (next_of node.0) nodes) (with_first first.0) reads first.2 in
      let later = level_is_read ordered level (next_of node.0) nodes rest.0 numbered.1 rest.1 in
      let here : IsRead level least (made_of updates wanted made.0) = record { numbered = numbered.0; entries_are = of_node-updated wanted updates made.0.entries (ordered wanted made.0 made.1) } in
      subst (λ rs. AreRead level least rs × (greatests rs ≡ node.0 ∷ keys_of nodes)) (ok_is (first.0 ∷ rest.0) reads rest.2)
      (subst (λ (read : NodeRead). AreRead level least (read ∷ rest.0) × (greatests (read ∷ rest.0) ≡ node.0 ∷ keys_of nodes)) made.2 ((here, later.0), ap (λ ends. node.0 ∷ ends) later.1))

  -- With more updates a level is read with these.
  pub level_more : (more : List Update) (least : Pos) (nodes : Level) (reads : List NodeRead) → read_level sets updates btree least nodes ≡ Ok reads → read_level sets (updates ++ more) btree least nodes ≡ Ok (reads_with btree more least reads)
  level_more more least [] reads is = ap (λ rs. ok_reads (reads_with btree more least rs)) (ok_is [] reads is)
  level_more more least (node ∷ nodes) reads is =
      let wanted : Wanted = record { btree = btree; least = least; greatest = node.0; pointer = node.1 } in
      let with_first : NodeRead → List NodeRead → Result (List NodeRead) Place = λ first others. Ok (first ∷ others) in
      let rest_by : List Update → NodeRead → Result (List NodeRead) Place = λ us first. read_level sets us btree (next_of node.0) nodes >>= with_first first in
      let first = bind_ok (read_node sets updates wanted) (rest_by updates) reads is in
      let made = node_is_read least node first.0 first.1 in
      let rest = bind_ok (read_level sets updates btree (next_of node.0) nodes) (with_first first.0) reads first.2 in
      let later = level_more more (next_of node.0) nodes rest.0 rest.1 in
      let node_more : read_node sets (updates ++ more) wanted ≡ ok_read (read_with btree more least first.0) =
      ap (λ r. r >>= (λ content. ok_read (made_of (updates ++ more) wanted content))) made.1
      ∙ ap (λ es. ok_read (record { greatest = node.0; pointer = node.1; entries = es; end = made.0.end })) (updated-append (is_of_node wanted) updates more made.0.entries)
      ∙ ap (λ (read : NodeRead). ok_read (read_with btree more least read)) made.2 in
      let same_end : node.0 ≡ first.0.greatest = ap (λ (read : NodeRead). read.greatest) made.2 in
      ap (λ r. r >>= rest_by (updates ++ more)) node_more
      ∙ ap (λ r. r >>= with_first (read_with btree more least first.0)) later
      ∙ ap (λ end. ok_reads (read_with btree more least first.0 ∷ reads_with btree more (next_of end) rest.0)) same_end
      ∙ ap (λ rs. ok_reads (reads_with btree more least rs)) (ok_is (first.0 ∷ rest.0) reads rest.2)
