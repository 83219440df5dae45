-- What is read of one level: each node's sets come to its content, and the nodes to which those above the leaves lead are the level below.
use Rattle.std.proofs.Common.{◌≡◌, ◌&&◌, ℕ, zero, suc, ◌-◌, Bool, true, false, cond, List, [], ◌∷◌, ◌++◌, length, map, Option, Some, None, Result, Ok, Err, refl, sym, ap, subst, ◌∙◌, arith}
use Rattle.std.specs.Prelude.{All, ◌==◌, IsSome, is_some, slice_get, unwrap_or}
use Rattle.std.specs.BTreeMap.{is_at}
use Rattle.std.specs.List.{AllByRecursion, cons_option, filter, filter_map, flat_map, list_all}
use Rattle.std.specs.List.Sorted.{IsStrictlySortedBy}
use Rattle.std.specs.Map.{keys_of, values_of}
use Rattle.std.specs.Option.{option_map_or, option_or}
use Rattle.std.proofs.lemmas.Bool.{and_parts, eqb-true, true≢false}
use Rattle.std.proofs.lemmas.List.{map-append}
use Rattle.std.proofs.lemmas.List.Elements.{All-from_recursion}
use Rattle.std.proofs.lemmas.Option.{same_Some}
use Rattle.image_view.specs.Trees.{NodeRead, SetsOf, Wanted, are_children, child_in, each_of, ends_at, first_place, is_of_node, read_level, read_node, updated}
use Rattle.image_view.specs.Trees.{children_of as read_children}
use Rattle.image_view.specs.UpdatedTrees.{IsOfLeaf}
use Rattle.interior.specs.Contents.{entry_of}
use Rattle.key_codec.specs.Combined.{bind_ok, ok_is}
use Rattle.key_codec.specs.Formats.{◌>>=◌}
use Rattle.node_store.specs.NodeContents.{NodeContent}
use Rattle.tree_nodes.specs.CoverLaws.{covered-once}
use Rattle.tree_nodes.specs.Levels.{EndsAt, IsLevel, IsNested, IsNodeOf, Level, children_of, follower_of, least_of}
use Rattle.tree_nodes.specs.RowLaws.{same_at}
use Rattle.vol_types.specs.Btrees.{btree_code}
use Rattle.vol_types.specs.KeyMaps.{Entries}
use Rattle.vol_types.specs.MapLaws.{same_maps, value_at-append}
use Rattle.vol_types.specs.Maps.{IsMap, value_at}
use Rattle.vol_types.specs.PositionLaws.{is_within-iff, pos_exact, pos_total}
use Rattle.vol_types.specs.Positions.{IsWithin, greatest_pos, is_within, next_pos, pos_cmp}
use Rattle.vol_types.specs.Ranges.{IsValue}
use Rattle.vol_types.specs.Widths.{PosFits}
use Rattle.vol_types.specs.declared.keys.Update.{Update}
use Rattle.vol_types.specs.declared.pointers.NodePtr.{NodePtr}
use Rattle.vol_types.specs.declared.pointers.Place.{Place}
use Rattle.vol_types.specs.declared.positions.Btree.{Btree}
use Rattle.vol_types.specs.declared.positions.Pos.{Pos}
use Rattle.vol_types.specs.declared.values.Value.{Value}
use Rattle.vol_types.specs.declared.values.Value.TheVariants as values
use Rattle.btree_laws.specs.HeldContents.{AreNodeEntries, ComeTo}
use Rattle.btree_laws.specs.Standing.{AreLeafKeys, Contents, wanted_at}
use Rattle.btree_laws.proofs.LeafKeys.{keys_from, leaf_value, leaves_fit, leaves_rise}
use Rattle.btree_laws.proofs.Levels.{behind, fitting_entries, key_end, last_pushed, least_there, part_rises, part_value, step_on}
use Rattle.btree_laws.proofs.Reading.{AreNumbered, joined_lists, node_read, nodes_read}

-- ---- nodes that are read

-- Updates of leaves are none of a node above them.
none_above : (wanted : Wanted) (level : ℕ) (updates : List Update) → wanted.pointer.level ≡ suc level → AllByRecursion IsOfLeaf updates → filter (is_of_node wanted) updates ≡ []
none_above wanted level [] is all = refl
none_above wanted level (update ∷ updates) is all =
    ap (λ b. cond b (update ∷ filter (is_of_node wanted) updates) (filter (is_of_node wanted) updates)) (none (btree_code update.btree == btree_code wanted.btree) (update.level == wanted.pointer.level) refl)
    ∙ none_above wanted level updates is all.1
  where
    none : (a b : Bool) → (update.level == wanted.pointer.level) ≡ b → (a && (b && is_within wanted.least wanted.greatest update.pos)) ≡ false
    none a true same =
        let leaf = all.0.level in
        let numbers = eqb-true update.level wanted.pointer.level same in
        absurd (omega (arith, is, leaf, numbers))
    none true false same = refl
    none false false same = refl

-- a node as it is looked for behind a position
abbrev wanted_from : Btree → Pos → Pos × NodePtr → Wanted
wanted_from btree least node = record { btree = btree; least = least; greatest = node.0; pointer = node.1 }

module _ (sets : SetsOf) (content : Btree → Contents) (come : ComeTo sets content) (updates : List Update) (leaves : AllByRecursion IsOfLeaf updates) (btree : Btree) where
  -- what is made of a node with a content
  abbrev made_of : Wanted → NodeContent → NodeRead
  made_of wanted own = record { greatest = wanted.greatest; pointer = wanted.pointer; entries = updated (filter (is_of_node wanted) updates) own.entries; end = own.end }

  -- A node that was read has its content.
  node_comes : (wanted : Wanted) (read : NodeRead) → read_node sets updates wanted ≡ Ok read → (sets wanted ≡ Ok (content wanted.btree wanted.pointer)) × (made_of wanted (content wanted.btree wanted.pointer) ≡ read)
  node_comes wanted read is =
      let own = bind_ok (sets wanted) (λ (c : NodeContent). Ok (made_of wanted c)) read is in
      let same : own.0 ≡ content wanted.btree wanted.pointer = come.content_is wanted own.0 own.1 in
      (own.1 ∙ ap (λ (c : NodeContent). Ok c) same, ap (made_of wanted) (sym same) ∙ ok_is (made_of wanted own.0) read own.2)

  -- A level that was read is its first node and the others behind it.
  record ReadOn (least : Pos) (e : Pos × NodePtr) (es : Level) (reads : List NodeRead) : Type 0 where
    comes : sets (wanted_from btree least e) ≡ Ok (content btree e.1)
    others : List NodeRead
    read : read_level sets updates btree (unwrap_or (next_pos e.0) greatest_pos) es ≡ Ok others
    all : made_of (wanted_from btree least e) (content btree e.1) ∷ others ≡ reads

  read_on : (least : Pos) (e : Pos × NodePtr) (es : Level) (reads : List NodeRead) → read_level sets updates btree least (e ∷ es) ≡ Ok reads → ReadOn least e es reads
  read_on least e es reads is =
      let next : Pos = unwrap_or (next_pos e.0) greatest_pos in
      let with_first : NodeRead → List NodeRead → Result (List NodeRead) Place = λ first others. Ok (first ∷ others) in
      let rest_by : NodeRead → Result (List NodeRead) Place = λ first. read_level sets updates btree next es >>= with_first first in
      let first = bind_ok (read_node sets updates (wanted_from btree least e)) rest_by reads is in
      let rest = bind_ok (read_level sets updates btree next es) (with_first first.0) reads first.2 in
      let own = node_comes (wanted_from btree least e) first.0 first.1 in
      record { comes = own.0; others = rest.0; read = rest.1; all = ap (λ (r : NodeRead). r ∷ rest.0) own.1 ∙ ok_is (first.0 ∷ rest.0) reads rest.2 }

  module _ (whole : Level) (rises : IsMap pos_cmp whole) where
    comes_from : (front nodes : Level) (reads : List NodeRead) → front ++ nodes ≡ whole → read_level sets updates btree (behind front) nodes ≡ Ok reads → (at : Pos) (node : NodePtr) → value_at pos_cmp at nodes ≡ Some node
        → sets (wanted_at btree whole at node) ≡ Ok (content btree node)
    comes_from front [] reads is read at node there = absurd (true≢false (sym (ap is_some there)))
    comes_from front (e ∷ es) reads is read at node there =
        let on = read_on (behind front) e es reads read in
        by (is_at (pos_cmp at) e.0) refl there
        (ap (λ least. sets (record { btree = btree; least = least; greatest = e.0; pointer = e.1 })) (least_there whole front e es rises is) ∙ on.comes)
        (comes_from (front ++ e ∷ []) es on.others (step_on whole front e es is) (subst (λ least. read_level sets updates btree least es ≡ Ok on.others) (sym (ap follower_of (last_pushed front e))) on.read) at node)
      where
        by : (b : Bool) → is_at (pos_cmp at) e.0 ≡ b → cond b (Some e.1) (value_at pos_cmp at es) ≡ Some node → sets (wanted_at btree whole e.0 e.1) ≡ Ok (content btree e.1)
            → (value_at pos_cmp at es ≡ Some node → sets (wanted_at btree whole at node) ≡ Ok (content btree node)) → sets (wanted_at btree whole at node) ≡ Ok (content btree node)
        by true is found here later =
            let place = same_at at e.0 is in
            let same = same_Some e.1 node found in
            subst (λ (n : Pos × NodePtr). sets (wanted_at btree whole n.0 n.1) ≡ Ok (content btree n.1)) (λ i. (sym place i, same i)) here
        by false is found here later = later found

    -- Each node of a level that was read has its content.
    pub level_comes : (reads : List NodeRead) → read_level sets updates btree (behind []) whole ≡ Ok reads → (at : Pos) (node : NodePtr) → value_at pos_cmp at whole ≡ Some node → sets (wanted_at btree whole at node) ≡ Ok (content btree node)
    level_comes reads read = comes_from [] whole reads refl read

    -- So its keys are of its range.
    pub level_entries : (reads : List NodeRead) → read_level sets updates btree (behind []) whole ≡ Ok reads → (at : Pos) (node : NodePtr) → value_at pos_cmp at whole ≡ Some node → AreNodeEntries (least_of at whole) at (content btree node).entries
    level_entries reads read at node there = come.entries (wanted_at btree whole at node) (content btree node) (level_comes reads read at node there)

  -- Of a level above the leaves the entries are read as they are.
  pub upper_reads : (level : ℕ) (least : Pos) (nodes : Level) (reads : List NodeRead) → AreNumbered (suc level) nodes → read_level sets updates btree least nodes ≡ Ok reads → nodes_read (content btree) nodes ≡ reads
  upper_reads level least [] reads numbered read = ok_is [] reads read
  upper_reads level least (e ∷ es) reads numbered read =
      let on = read_on least e es reads read in
      let plain : node_read (content btree) e ≡ made_of (wanted_from btree least e) (content btree e.1) =
      ap (λ (us : List Update). record { greatest = e.0; pointer = e.1; entries = updated us (content btree e.1).entries; end = (content btree e.1).end }) (sym (none_above (wanted_from btree least e) level updates numbered.0 leaves)) in
      (λ i. plain i ∷ upper_reads level (unwrap_or (next_pos e.0) greatest_pos) es on.others numbered.1 on.read i) ∙ on.all

-- ---- entries that lead to nodes

-- An entry that leads to a node is the one of this node.
child_is : (level : ℕ) (entry : Pos × Value) (child : Pos × NodePtr) → child_in level entry ≡ Some child → (entry_of child ≡ entry) × (child.1.level ≡ level)
child_is level (pos, values.Node pointer) child is = by (pointer.level == level) refl is
  where
    by : (b : Bool) → (pointer.level == level) ≡ b → cond b (Some (pos, pointer)) None ≡ Some child → (entry_of child ≡ (pos, values.Node pointer)) × (child.1.level ≡ level)
    by true numbered is =
        let same : (pos, pointer) ≡ child = same_Some (pos, pointer) child is in
        (ap entry_of (sym same), ap (λ (c : Pos × NodePtr). c.1.level) (sym same) ∙ eqb-true pointer.level level numbered)
    by false numbered is = absurd (true≢false (sym (ap is_some is)))
child_is level (pos, values.Inode x) child is = absurd cc
child_is level (pos, values.Names x) child is = absurd cc
child_is level (pos, values.Extent x) child is = absurd cc
child_is level (pos, values.Hole x) child is = absurd cc
child_is level (pos, values.White) child is = absurd cc
child_is level (pos, values.Subs x) child is = absurd cc
child_is level (pos, values.Snap x) child is = absurd cc
child_is level (pos, values.Live x) child is = absurd cc
child_is level (pos, values.Back x) child is = absurd cc
child_is level (pos, values.Gone) child is = absurd cc
child_is level (pos, values.Counter x) child is = absurd cc

-- the nodes to which entries lead
abbrev led_to : ℕ → Entries → Level
led_to level entries = filter_map (child_in level) entries

-- The entries lead to these nodes: they are those of the nodes, which are of the level and in range.
record LeadTo (level : ℕ) (entries : Entries) (nodes : Level) : Type 0 where
  entries_are : map entry_of nodes ≡ entries
  each : AllByRecursion (IsNodeOf level) (values_of nodes)

all_lead : (level : ℕ) (entries : Entries) → list_all (λ entry. is_some (child_in level entry)) entries ≡ true → AllByRecursion IsValue (values_of entries) → LeadTo level entries (led_to level entries)
all_lead level [] lead in_range = record { entries_are = refl; each = tt }
all_lead level (e ∷ es) lead in_range =
    let both = and_parts (is_some (child_in level e)) (list_all (λ entry. is_some (child_in level entry)) es) lead in
    by (child_in level e) refl both.0 (all_lead level es both.1 in_range.1)
  where
    by : (o : Option (Pos × NodePtr)) → child_in level e ≡ o → is_some (child_in level e) ≡ true → LeadTo level es (led_to level es) → LeadTo level (e ∷ es) (cons_option o (led_to level es))
    by None is some later = absurd (true≢false (sym some ∙ ap is_some is))
    by (Some child) is some later =
        let own = child_is level e child is in
        record {
          entries_are = (λ i. own.0 i ∷ later.entries_are i);
          each = (record { numbered = own.1; in_range = subst (λ (entry : Pos × Value). IsValue entry.1) (sym own.0) in_range.0 }, later.each);
        }

-- ---- nodes and their entries

-- Nodes end where their entries do.
same_keys : (nodes : Level) → keys_of (map entry_of nodes) ≡ keys_of nodes
same_keys [] = refl
same_keys (e ∷ es) = ap (λ keys. e.0 ∷ keys) (same_keys es)

same_ends : (at : Pos) (nodes : Level) → is_some (value_at pos_cmp at (map entry_of nodes)) ≡ is_some (value_at pos_cmp at nodes)
same_ends at [] = refl
same_ends at (e ∷ es) = by (is_at (pos_cmp at) e.0) (same_ends at es)
  where
    by : (b : Bool) → is_some (value_at pos_cmp at (map entry_of es)) ≡ is_some (value_at pos_cmp at es)
        → is_some (cond b (Some (values.Node e.1)) (value_at pos_cmp at (map entry_of es))) ≡ is_some (cond b (Some e.1) (value_at pos_cmp at es))
    by true later = refl
    by false later = later

-- The entries of a part are a part of the entries.
same_part : (p : Pos → Bool) (nodes : Level) → map entry_of (filter (λ c. p c.0) nodes) ≡ filter (λ e. p e.0) (map entry_of nodes)
same_part p [] = refl
same_part p (e ∷ es) = by (p e.0) (same_part p es)
  where
    by : (b : Bool) → map entry_of (filter (λ c. p c.0) es) ≡ filter (λ x. p x.0) (map entry_of es)
        → map entry_of (cond b (e ∷ filter (λ c. p c.0) es) (filter (λ c. p c.0) es)) ≡ cond b (entry_of e ∷ filter (λ x. p x.0) (map entry_of es)) (filter (λ x. p x.0) (map entry_of es))
    by true later = ap (λ xs. entry_of e ∷ xs) later
    by false later = later

-- An entry at a place is found at its position.
found_there : (at : Pos) (entries : Entries) (place : ℕ) → option_map_or (λ (entry : Pos × Value). is_at (pos_cmp at) entry.0) (slice_get entries place) false ≡ true → IsSome (value_at pos_cmp at entries)
found_there at [] place is = absurd (true≢false (sym is))
found_there at (e ∷ es) zero is = ap (λ b. is_some (cond b (Some e.1) (value_at pos_cmp at es))) is
found_there at (e ∷ es) (suc place) is = by (is_at (pos_cmp at) e.0) (found_there at es place is)
  where
    by : (b : Bool) → IsSome (value_at pos_cmp at es) → IsSome (cond b (Some e.1) (value_at pos_cmp at es))
    by true later = refl
    by false later = later

some_first : {A : Type 0} (one other : Option A) → IsSome one → IsSome (option_or one other)
some_first None other some = absurd (true≢false (sym some))
some_first (Some x) other some = refl

some_second : {A : Type 0} (one other : Option A) → IsSome other → IsSome (option_or one other)
some_second None other some = some
some_second (Some x) other some = refl

-- ---- the level below

module _ (content : Contents) (level : ℕ) (whole : Level) (is : IsLevel (suc level) whole) (own : (at : Pos) (node : NodePtr) → value_at pos_cmp at whole ≡ Some node → AreNodeEntries (least_of at whole) at (content node).entries) where
  -- the entries of a node
  abbrev entries : NodePtr → Entries
  entries node = (content node).entries

  -- the nodes to which a node's entries lead
  abbrev led : Pos × NodePtr → Level
  led e = led_to level (entries e.1)

  -- A node's entries lead to nodes of the level below, the last of which ends where it does.
  record Leads (e : Pos × NodePtr) : Type 0 where
    lead : LeadTo level (entries e.1) (led e)
    ends : IsSome (value_at pos_cmp e.0 (entries e.1))

  one_leads : (e : Pos × NodePtr) (children : Level) → AllByRecursion IsValue (values_of (entries e.1)) → read_children level (node_read content e) ≡ Ok children → Leads e × (led e ≡ children)
  one_leads e children in_range read = by (are_children level e.0 (entries e.1)) refl read
    where
      by : (b : Bool) → are_children level e.0 (entries e.1) ≡ b → cond b (Ok (led e)) (Err (first_place e.1)) ≡ Ok children → Leads e × (led e ≡ children)
      by true are read =
          let both = and_parts (list_all (λ entry. is_some (child_in level entry)) (entries e.1)) (ends_at e.0 (entries e.1)) are in
          (record { lead = all_lead level (entries e.1) both.0 in_range; ends = found_there e.0 (entries e.1) (length (entries e.1) - 1) both.1 }, ok_is (led e) children read)
      by false are read = absurd cc

  all_led : (nodes : Level) (lists : List Level) → AllByRecursion (λ (node : NodePtr). AllByRecursion IsValue (values_of (entries node))) (values_of nodes) → each_of (read_children level) (nodes_read content nodes) ≡ Ok lists → AllByRecursion Leads nodes × (map led nodes ≡ lists)
  all_led [] lists in_range read = (tt, ok_is [] lists read)
  all_led (e ∷ es) lists in_range read =
      let with_first : Level → List Level → Result (List Level) Place = λ first others. Ok (first ∷ others) in
      let rest_by : Level → Result (List Level) Place = λ first. each_of (read_children level) (nodes_read content es) >>= with_first first in
      let first = bind_ok (read_children level (node_read content e)) rest_by lists read in
      let rest = bind_ok (each_of (read_children level) (nodes_read content es)) (with_first first.0) lists first.2 in
      let here = one_leads e first.0 in_range.0 first.1 in
      let later = all_led es rest.0 in_range.1 rest.1 in
      ((here.0, later.0), (λ i. here.1 i ∷ later.1 i) ∙ ok_is (first.0 ∷ rest.0) lists rest.2)

  -- the nodes of the level below
  abbrev below : Level
  below = flat_map led whole

  led_entries : (nodes : Level) → AllByRecursion Leads nodes → map entry_of (flat_map led nodes) ≡ keys_from entries nodes
  led_entries [] all = refl
  led_entries (e ∷ es) all = map-append entry_of (led e) (flat_map led es) ∙ (λ i. all.0.lead.entries_are i ++ led_entries es all.1 i)

  led_nodes : (nodes : Level) → AllByRecursion Leads nodes → AllByRecursion (IsNodeOf level) (values_of (flat_map led nodes))
  led_nodes [] all = tt
  led_nodes (e ∷ es) all = subst (AllByRecursion (IsNodeOf level)) (sym (map-append (λ (c : Pos × NodePtr). c.1) (led e) (flat_map led es))) (joined (values_of (led e)) all.0.lead.each (led_nodes es all.1))
    where
      joined : (nodes : List NodePtr) → AllByRecursion (IsNodeOf level) nodes → AllByRecursion (IsNodeOf level) (values_of (flat_map led es)) → AllByRecursion (IsNodeOf level) (nodes ++ values_of (flat_map led es))
      joined [] first second = second
      joined (node ∷ nodes) first second = (first.0, joined nodes first.1 second)

  -- Each node above ends where one of the level below does.
  led_end : (nodes : Level) → AllByRecursion Leads nodes → (at : Pos) → EndsAt nodes at → EndsAt (flat_map led nodes) at
  led_end [] all at ends = absurd (true≢false (sym ends))
  led_end (e ∷ es) all at ends =
      ap is_some (value_at-append pos_cmp at (led e) (flat_map led es)) ∙ by (is_at (pos_cmp at) e.0) refl ends (led_end es all.1 at)
    where
      here : at ≡ e.0 → IsSome (value_at pos_cmp at (led e))
      here same = sym (same_ends at (led e)) ∙ ap (λ (es : Entries). is_some (value_at pos_cmp at es)) all.0.lead.entries_are ∙ subst (λ p. IsSome (value_at pos_cmp p (entries e.1))) (sym same) all.0.ends

      by : (b : Bool) → is_at (pos_cmp at) e.0 ≡ b → IsSome (cond b (Some e.1) (value_at pos_cmp at es)) → (EndsAt es at → EndsAt (flat_map led es) at) → IsSome (option_or (value_at pos_cmp at (led e)) (value_at pos_cmp at (flat_map led es)))
      by true is some later = some_first (value_at pos_cmp at (led e)) (value_at pos_cmp at (flat_map led es)) (here (same_at at e.0 is))
      by false is some later = some_second (value_at pos_cmp at (led e)) (value_at pos_cmp at (flat_map led es)) (later some)

  own_keys : (at : Pos) (node : NodePtr) → value_at pos_cmp at whole ≡ Some node → AreLeafKeys (least_of at whole) at (entries node)
  own_keys at node there = (own at node there).keys

  -- In the range of a node the entries of all are its own.
  range_own : (at : Pos) (node : NodePtr) → value_at pos_cmp at whole ≡ Some node → filter (λ e. is_within (least_of at whole) at e.0) (keys_from entries whole) ≡ entries node
  range_own at node there =
      let keys = own_keys at node there in
      let all_rise = leaves_rise entries whole is.row own_keys in
      let all_fit = leaves_fit entries whole is.row own_keys in
      same_maps pos_total pos_exact (filter (λ e. is_within (least_of at whole) at e.0) (keys_from entries whole)) (entries node) (part_rises (is_within (least_of at whole) at) (keys_from entries whole) all_rise) keys.rises
      (λ q. part_value (is_within (least_of at whole) at) q (keys_from entries whole) ∙ by q (is_within (least_of at whole) at q) refl keys all_fit)
    where
      by : (q : Pos) (b : Bool) → is_within (least_of at whole) at q ≡ b → AreLeafKeys (least_of at whole) at (entries node) → All PosFits (keys_of (keys_from entries whole)) → cond b (value_at pos_cmp q (keys_from entries whole)) None ≡ value_at pos_cmp q (entries node)
      by q true inside keys fits =
          fitting_entries (keys_from entries whole) (entries node) q fits keys.fits
          (λ q_fits. leaf_value entries whole is.row own_keys q (at, node) (covered-once q at node whole is.row q_fits there ((is_within-iff (least_of at whole) at q).0 inside)))
      by q false inside keys fits = none (value_at pos_cmp q (entries node)) refl
        where
          none : (o : Option Value) → value_at pos_cmp q (entries node) ≡ o → None ≡ value_at pos_cmp q (entries node)
          none None found = sym found
          none (Some value) found =
              let within : IsWithin (least_of at whole) at q = key_end (IsWithin (least_of at whole) at) (entries node) q keys.covered (ap is_some found) in
              absurd (true≢false (sym ((is_within-iff (least_of at whole) at q).1 within) ∙ inside))

  -- What is said of the level below: it is a level, in which each node of this one ends, and each of these has its own children.
  pub record IsBelow (lower : Level) : Type 0 where
    pub level_is : IsLevel level lower
    pub nested : IsNested whole lower
    pub children : (at : Pos) (node : NodePtr) → value_at pos_cmp at whole ≡ Some node → (content node).entries ≡ map entry_of (children_of at whole lower)

  below_is : AllByRecursion Leads whole → IsBelow below
  below_is all =
      let same : map entry_of below ≡ keys_from entries whole = led_entries whole all in
      let keys : keys_of below ≡ keys_of (keys_from entries whole) = sym (same_keys below) ∙ ap (λ (es : Entries). keys_of es) same in
      let nested : IsNested whole below = led_end whole all in
      record {
        level_is = record {
          row = record {
            rises = subst (IsStrictlySortedBy pos_cmp) (sym keys) (leaves_rise entries whole is.row own_keys);
            fits = subst (All PosFits) (sym keys) (leaves_fit entries whole is.row own_keys);
          };
          ends = nested greatest_pos is.ends;
          each = All-from_recursion (IsNodeOf level) (values_of below) (led_nodes whole all);
        };
        nested = nested;
        children = λ at node there.
            sym (range_own at node there) ∙ ap (filter (λ e. is_within (least_of at whole) at e.0)) (sym same) ∙ sym (same_part (is_within (least_of at whole) at) below);
      }

  -- The nodes to which a level leads are the level below.
  pub lists_are_below : (lists : List Level) → AllByRecursion (λ (node : NodePtr). AllByRecursion IsValue (values_of (entries node))) (values_of whole) → each_of (read_children level) (nodes_read content whole) ≡ Ok lists → IsBelow (flat_map (λ children. children) lists)
  lists_are_below lists in_range read =
      let all = all_led whole lists in_range read in
      subst IsBelow (sym (joined_lists led whole) ∙ ap (flat_map (λ children. children)) all.1) (below_is all.0)
