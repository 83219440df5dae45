-- In the space that a volume is opened with, a bucket whose key says that it has blocks of files is in use by files, where it lies behind the superblocks and the journal
-- area on its device, and no node lies in it.
use Rattle.std.proofs.Common.{◌≡◌, ◌≢◌, ◌≤◌, ◌⊎◌, inl, inr, ⊎_elim, ◌*◌, ◌/◌, ◌%◌, ℕ, Bool, true, false, cond, if◌then◌else◌, List, [], ◌∷◌, fold, Option, Some, None, option_map, refl, sym, ap, subst, ◌∙◌, arith}
use Rattle.std.proofs.lemmas.Bool.{cases_eq, eq-eqb, eqb-true, false≢true, ne_eqb}
use Rattle.std.proofs.lemmas.Cmp.{ranked, tied_itself}
use Rattle.std.proofs.lemmas.List.Elements.{All-cons, All-filter, All-head, All-nil, All-tail, All-weaker}
use Rattle.std.proofs.lemmas.Map.{lookup-none}
use Rattle.std.proofs.lemmas.Map.Entries.{none_past_head}
use Rattle.std.proofs.lemmas.Map.Keys.{IsDistinct-from_sorted, sorted_tail}
use Rattle.std.proofs.lemmas.Option.{none-some, same_Some}
use Rattle.std.specs.BTreeMap.{is_at}
use Rattle.std.specs.Cmp.{eq_by_cmp_equiv}
use Rattle.std.specs.Map.{keys_of}
use Rattle.std.specs.Ordering.{is_eq, is_le, nat_cmp}
use Rattle.std.specs.Prelude.{◌==◌, ◌&&◌, All, ⊤}
use Rattle.std.specs.declared.cmp.Ordering.{Ordering}
use Rattle.std.specs.declared.cmp.Ordering.TheVariants.{Equal, Greater, Less}
use Rattle.bucket_pool.specs.Buckets.{released}
use Rattle.bucket_pool.specs.Given.{bucket_at}
use Rattle.bucket_pool.specs.NodeBuckets.{HoldsNode, MayHoldNode, bucket_state}
use Rattle.bucket_pool.specs.NodeLaws.{to_state}
use Rattle.bucket_pool.specs.Opening.{as_live, blank, holds_node, live_state, node_state, space_of, with_key, with_place, with_value}
use Rattle.bucket_pool.specs.Places.{changed}
use Rattle.bucket_pool.specs.Space.{Space}
use Rattle.bucket_pool.specs.declared.bucket.Bucket.{Bucket}
use Rattle.bucket_pool.specs.declared.bucket.State.{State}
use Rattle.bucket_pool.specs.declared.bucket.State.TheVariants.{Free, Journal, Node, Opened, Retired, Super, User, Waiting}
use Rattle.core_volume.specs.Opening.{keys_of_buckets}
use Rattle.key_meaning.specs.Checks.{count_in_bucket, is_in_bucket, live_of}
use Rattle.key_meaning.specs.TableLaws.{same_key}
use Rattle.vol_types.specs.KeyMaps.{Entries, IsKeyMap, KeyMap, entries_of, entries_within, key_of, keys_in, value_in}
use Rattle.vol_types.specs.Layouts.{is_layout}
use Rattle.vol_types.specs.Limits.{bucket_blocks}
use Rattle.vol_types.specs.Maps.{IsMap, value_at}
use Rattle.vol_types.specs.PositionLaws.{pos_cmp-number, pos_exact, pos_number-fits, pos_total}
use Rattle.vol_types.specs.Positions.{greatest_pos, is_within, least_pos, pos_cmp, pos_number}
use Rattle.vol_types.specs.Widths.{PosFits}
use Rattle.vol_types.specs.declared.keys.Key.{Key}
use Rattle.vol_types.specs.declared.layout.Layout.{Layout}
use Rattle.vol_types.specs.declared.pointers.Place.{Place}
use Rattle.vol_types.specs.declared.positions.Btree.TheVariants.{Alloc}
use Rattle.vol_types.specs.declared.positions.Pos.{Pos}
use Rattle.vol_types.specs.declared.values.Live.{Live}
use Rattle.vol_types.specs.declared.values.Value.{Value}
use Rattle.vol_types.specs.declared.values.Value.TheVariants as values
use Rattle.vol_core.specs.CoreLaws.{BucketLaws}
use Rattle.vol_core.proofs.BucketChanges.{bucket-changed, bucket-unchanged}
use Rattle.vol_core.proofs.JoinedLists.{none_passes}

-- ---- positions

le_number : (p q : Pos) → PosFits p → PosFits q → pos_number p ≤ pos_number q → is_le (pos_cmp p q) ≡ true
le_number p q p_fits q_fits le = ap is_le (pos_cmp-number p q p_fits q_fits) ∙ by (nat_cmp (pos_number p) (pos_number q)) refl
  where
    by : (o : Ordering) → o ≡ nat_cmp (pos_number p) (pos_number q) → is_le o ≡ true
    by Less is = refl
    by Equal is = refl
    by Greater is = absurd (omega (arith, le, ranked (pos_number p) (pos_number q) Greater is))

-- A position that has its widths lies between the least and the greatest one.
within_all : (p : Pos) → PosFits p → is_within least_pos greatest_pos p ≡ true
within_all p fits =
    let low : is_le (pos_cmp least_pos p) ≡ true = le_number least_pos p (record { inode = omega arith; offset = omega arith; snapshot = omega arith }) fits (omega arith) in
    let high : is_le (pos_cmp p greatest_pos) ≡ true = le_number p greatest_pos fits (record { inode = omega arith; offset = omega arith; snapshot = omega arith }) (omega (arith, pos_number-fits p fits)) in
    ap (λ (b : Bool). b && is_le (pos_cmp p greatest_pos)) low ∙ high

at_itself : (p : Pos) → is_at (pos_cmp p) p ≡ true
at_itself p = ap is_eq (tied_itself pos_total p)

-- Where nothing stands at a position, no entry has it.
none_there : (pos : Pos) (es : Entries) → value_at pos_cmp pos es ≡ None → All (λ (e : Pos × Value). e.0 ≢ pos) es
none_there pos [] none = All-nil (λ (e : Pos × Value). e.0 ≢ pos)
none_there pos (e ∷ es) none = by (is_at (pos_cmp pos) e.0) refl none (none_there pos es)
  where
    by : (b : Bool) → is_at (pos_cmp pos) e.0 ≡ b → cond b (Some e.1) (value_at pos_cmp pos es) ≡ None → (value_at pos_cmp pos es ≡ None → All (λ (other : Pos × Value). other.0 ≢ pos) es) → All (λ (other : Pos × Value). other.0 ≢ pos) (e ∷ es)
    by true here none later = absurd (none-some e.1 (sym none))
    by false here none later = All-cons (λ (other : Pos × Value). other.0 ≢ pos) e es (λ same. false≢true (sym here ∙ ap (is_at (pos_cmp pos)) same ∙ at_itself pos)) (later none)

-- The value at a position of a map is that of each entry that has it.
one_there : (pos : Pos) (value : Value) (es : Entries) → IsMap pos_cmp es → value_at pos_cmp pos es ≡ Some value → All (λ (e : Pos × Value). e.0 ≡ pos → e.1 ≡ value) es
one_there pos value [] rises there = All-nil (λ (e : Pos × Value). e.0 ≡ pos → e.1 ≡ value)
one_there pos value (e ∷ es) rises there = by (is_at (pos_cmp pos) e.0) refl there (one_there pos value es (sorted_tail pos_cmp e.0 (keys_of es) rises))
  where
    by : (b : Bool) → is_at (pos_cmp pos) e.0 ≡ b → cond b (Some e.1) (value_at pos_cmp pos es) ≡ Some value → (value_at pos_cmp pos es ≡ Some value → All (λ (other : Pos × Value). other.0 ≡ pos → other.1 ≡ value) es)
        → All (λ (other : Pos × Value). other.0 ≡ pos → other.1 ≡ value) (e ∷ es)
    by true here there later = All-cons (λ (other : Pos × Value). other.0 ≡ pos → other.1 ≡ value) e es (λ same. same_Some e.1 value there)
        (All-weaker (λ (other : Pos × Value). other.0 ≢ pos) (λ (other : Pos × Value). other.0 ≡ pos → other.1 ≡ value) (λ other apart same. absurd (apart same)) es
        (none_there pos es (lookup-none (is_at (pos_cmp pos)) es (none_past_head (eq_by_cmp_equiv pos_total) pos e es (IsDistinct-from_sorted pos_cmp (keys_of (e ∷ es)) rises) here))))
    by false here there later = All-cons (λ (other : Pos × Value). other.0 ≡ pos → other.1 ≡ value) e es (λ same. absurd (false≢true (sym here ∙ ap (is_at (pos_cmp pos)) same ∙ at_itself pos))) (later there)

-- ---- states

-- A state is that of a bucket in use by files, or with superblocks or a part of the journal area.
abbrev IsUserOrFixed : State → Type 0
IsUserOrFixed User = ⊤
IsUserOrFixed Super = ⊤
IsUserOrFixed Journal = ⊤
IsUserOrFixed other = ⊥

some_used : (live : Live) → live.blocks ≢ 0 → IsUserOrFixed (if live.blocks == 0 then released live.generation else User)
some_used live some = subst (λ (b : Bool). IsUserOrFixed (if b then released live.generation else User)) (sym (ne_eqb live.blocks 0 some)) tt

-- The key of a bucket with blocks of files leaves no other state.
keyed_state : (live : Live) (state : State) → live.blocks ≢ 0 → IsUserOrFixed (live_state live state)
keyed_state live Super some = tt
keyed_state live Journal some = tt
keyed_state live Node some = some_used live some
keyed_state live User some = some_used live some
keyed_state live Free some = some_used live some
keyed_state live (Waiting entry) some = some_used live some
keyed_state live (Opened bucket) some = some_used live some
keyed_state live Retired some = some_used live some

-- Where a node might lie, that is a bucket in use by files.
plain_is_user : (state : State) → IsUserOrFixed state → node_state state ≡ Node → state ≡ User
plain_is_user User keyed plain = refl
plain_is_user Super keyed plain = absurd cc
plain_is_user Journal keyed plain = absurd cc
plain_is_user Node keyed plain = absurd keyed
plain_is_user Free keyed plain = absurd keyed
plain_is_user (Waiting entry) keyed plain = absurd keyed
plain_is_user (Opened bucket) keyed plain = absurd keyed
plain_is_user Retired keyed plain = absurd keyed

-- ---- keys of one bucket

module _ (dev at : ℕ) where
  -- where the key of the bucket stands
  abbrev pub pos : Pos
  pos = record { inode = dev; offset = at; snapshot = 0 }

  -- The bucket is there, and its state is such.
  abbrev IsIn : (State → Type 0) → Space → Type 0
  IsIn P space = (bucket : Bucket) × (bucket_at space dev at ≡ Some bucket) × P bucket.state

  -- The bucket has blocks of files, as a value says that stands at its position.
  abbrev UsesBlocks : Pos × Value → Type 0
  UsesBlocks entry = entry.0 ≡ pos → (live : Live) → entry.1 ≡ values.Live live → live.blocks ≢ 0

  module _ (P : State → Type 0) where
    -- A key of another bucket leaves this one, and its own keeps what it is to keep.
    live_keeps : (p : Pos) (live : Live) (space : Space) → (p ≡ pos → (state : State) → P state → P (live_state live state)) → IsIn P space → IsIn P (with_value p (Some (values.Live live)) space)
    live_keeps p live space keeps is = by (p.snapshot == 0) refl
      where
        elsewhere : (dev ≢ p.inode) ⊎ (at ≢ p.offset) → IsIn P (changed (changed (as_live live) p.offset) p.inode space)
        elsewhere apart = (is.0, bucket-unchanged (as_live live) p.inode p.offset dev at space apart ∙ is.1, is.2)

        here : p.snapshot ≡ 0 → dev ≡ p.inode → at ≡ p.offset → IsIn P (changed (changed (as_live live) p.offset) p.inode space)
        here zero_is device bucket =
            let same : p ≡ pos = λ i. record { inode = sym device i; offset = sym bucket i; snapshot = zero_is i } in (
              as_live live is.0,
              ap (λ (q : ℕ × ℕ). bucket_at (changed (changed (as_live live) q.1) q.0 space) dev at) (λ i. (sym device i, sym bucket i)) ∙ bucket-changed (as_live live) dev at space ∙ ap (option_map (as_live live)) is.1,
              keeps same is.0.state is.2,
            )

        by : (b : Bool) → (p.snapshot == 0) ≡ b → IsIn P (if b then changed (changed (as_live live) p.offset) p.inode space else space)
        by false other = is
        by true zero_is = ⊎_elim
            (λ (device : dev ≡ p.inode). ⊎_elim (λ (bucket : at ≡ p.offset). here (eqb-true p.snapshot 0 zero_is) device bucket) (λ (other : at ≢ p.offset). elsewhere (inr other)) (cases_eq at p.offset))
            (λ (other : dev ≢ p.inode). elsewhere (inl other))
            (cases_eq dev p.inode)

    value_keeps : (p : Pos) (value : Value) (space : Space) → (p ≡ pos → (live : Live) → value ≡ values.Live live → (state : State) → P state → P (live_state live state)) → IsIn P space → IsIn P (with_value p (Some value) space)
    value_keeps p (values.Live live) space keeps is = live_keeps p live space (λ same. keeps same live refl) is
    value_keeps p other space keeps is = is

  -- Once a key said that the bucket is in use, it stays so.
  keys_keep : (es : Entries) (space : Space) → All UsesBlocks es → IsIn IsUserOrFixed space → IsIn IsUserOrFixed (fold with_key space (keys_in es))
  keys_keep [] space uses is = is
  keys_keep (e ∷ es) space uses is =
      keys_keep es (with_key space (key_of e)) (All-tail UsesBlocks e es uses)
      (value_keeps IsUserOrFixed e.0 e.1 space (λ same live value state used. keyed_state live state (All-head UsesBlocks e es uses same live value)) is)

  -- The key of the bucket says so.
  value_sets : (p : Pos) (value : Value) (live : Live) (space : Space) → pos ≡ p → value ≡ values.Live live → live.blocks ≢ 0 → IsIn (λ (state : State). ⊤) space → IsIn IsUserOrFixed (with_value p (Some value) space)
  value_sets p value live space same value_is some is =
      subst (λ (q : Pos). IsIn IsUserOrFixed (with_value q (Some value) space)) same
      (subst (λ (v : Value). IsIn IsUserOrFixed (with_value pos (Some v) space)) (sym value_is)
      (as_live live is.0, bucket-changed (as_live live) dev at space ∙ ap (option_map (as_live live)) is.1, keyed_state live is.0.state some))

  module _ (live : Live) (some : live.blocks ≢ 0) (within : is_within least_pos greatest_pos pos ≡ true) where
    -- Where a value at the bucket's position says that it has blocks of files, the keys make it one in use.
    keys_set : (es : Entries) (space : Space) → All UsesBlocks es → value_at pos_cmp pos es ≡ Some (values.Live live) → IsIn (λ (state : State). ⊤) space → IsIn IsUserOrFixed (fold with_key space (keys_in (entries_within least_pos greatest_pos es)))
    keys_set [] space uses there is = absurd (none-some (values.Live live) there)
    keys_set (e ∷ es) space uses there is =
        by (is_at (pos_cmp pos) e.0) refl there (keys_set es space (All-tail UsesBlocks e es uses)) (keys_set es (with_key space (key_of e)) (All-tail UsesBlocks e es uses))
      where
        passes : (b : Bool) → (value_at pos_cmp pos es ≡ Some (values.Live live)) → (value_at pos_cmp pos es ≡ Some (values.Live live) → IsIn (λ (state : State). ⊤) space → IsIn IsUserOrFixed (fold with_key space (keys_in (entries_within least_pos greatest_pos es))))
            → (value_at pos_cmp pos es ≡ Some (values.Live live) → IsIn (λ (state : State). ⊤) (with_key space (key_of e)) → IsIn IsUserOrFixed (fold with_key (with_key space (key_of e)) (keys_in (entries_within least_pos greatest_pos es))))
            → IsIn IsUserOrFixed (fold with_key space (keys_in (cond b (e ∷ entries_within least_pos greatest_pos es) (entries_within least_pos greatest_pos es))))
        passes true later skipped taken = taken later (value_keeps (λ (state : State). ⊤) e.0 e.1 space (λ same live value state used. tt) is)
        passes false later skipped taken = skipped later is

        by : (b : Bool) → is_at (pos_cmp pos) e.0 ≡ b → cond b (Some e.1) (value_at pos_cmp pos es) ≡ Some (values.Live live)
            → (value_at pos_cmp pos es ≡ Some (values.Live live) → IsIn (λ (state : State). ⊤) space → IsIn IsUserOrFixed (fold with_key space (keys_in (entries_within least_pos greatest_pos es))))
            → (value_at pos_cmp pos es ≡ Some (values.Live live) → IsIn (λ (state : State). ⊤) (with_key space (key_of e)) → IsIn IsUserOrFixed (fold with_key (with_key space (key_of e)) (keys_in (entries_within least_pos greatest_pos es))))
            → IsIn IsUserOrFixed (fold with_key space (keys_in (entries_within least_pos greatest_pos (e ∷ es))))
        by false other later skipped taken = passes (is_within least_pos greatest_pos e.0) later skipped taken
        by true here value skipped taken =
            let same : pos ≡ e.0 = same_key pos_exact pos e.0 here in
            let inside : is_within least_pos greatest_pos e.0 ≡ true = ap (is_within least_pos greatest_pos) (sym same) ∙ within in
            subst (λ (b : Bool). IsIn IsUserOrFixed (fold with_key space (keys_in (cond b (e ∷ entries_within least_pos greatest_pos es) (entries_within least_pos greatest_pos es))))) (sym inside)
            (keys_keep (entries_within least_pos greatest_pos es) (with_key space (key_of e)) (All-filter (λ (other : Pos × Value). is_within least_pos greatest_pos other.0) UsesBlocks es (All-tail UsesBlocks e es uses))
            (value_sets e.0 e.1 live space same (same_Some e.1 (values.Live live) value) some is))

  -- ---- nodes

  -- the first block of the bucket
  abbrev pub first_block : Place
  first_block = record { dev = dev; block = bucket_blocks * at }

  first_begins : first_block.block % bucket_blocks ≡ 0
  first_begins = omega arith

  first_lies : first_block.block / bucket_blocks ≡ at
  first_lies = omega arith

  -- Where a node that is put there lies, the bucket was there before, with neither superblocks nor a part of the journal area.
  stood_before : (space : Space) → HoldsNode (with_place space first_block) first_block → IsIn (λ (state : State). node_state state ≡ Node) space
  stood_before space holds = by (bucket_at space dev at) refl node_there
    where
      made : with_place space first_block ≡ changed (changed holds_node at) dev space
      made = ap (λ (b : Bool). if b then changed (changed holds_node (first_block.block / bucket_blocks)) dev space else space) (eq-eqb (first_block.block % bucket_blocks) 0 first_begins)
          ∙ ap (λ (n : ℕ). changed (changed holds_node n) dev space) first_lies

      node_there : option_map (λ (bucket : Bucket). bucket.state) (option_map holds_node (bucket_at space dev at)) ≡ Some Node
      node_there = ap (option_map (λ (bucket : Bucket). bucket.state)) (sym (bucket-changed holds_node dev at space))
          ∙ ap (λ (s : Space). bucket_state s dev at) (sym made) ∙ ap (bucket_state (with_place space first_block) dev) (sym first_lies) ∙ holds

      by : (o : Option Bucket) → bucket_at space dev at ≡ o → option_map (λ (bucket : Bucket). bucket.state) (option_map holds_node o) ≡ Some Node → IsIn (λ (state : State). node_state state ≡ Node) space
      by None there is = absurd (none-some Node is)
      by (Some bucket) there is = (bucket, there, same_Some (node_state bucket.state) Node is)

  -- A node in another bucket leaves this one.
  node_leaves : (space : Space) (node : Place) → is_in_bucket dev at node ≡ false → bucket_at (with_place space node) dev at ≡ bucket_at space dev at
  node_leaves space node other = by (node.block % bucket_blocks == 0)
    where
      apart : (dev ≢ node.dev) ⊎ (at ≢ node.block / bucket_blocks)
      apart = ⊎_elim
          (λ (device : dev ≡ node.dev). ⊎_elim
          (λ (bucket : at ≡ node.block / bucket_blocks).
          let lies : (node.dev == dev && node.block / bucket_blocks == at) ≡ true = ap (λ (b : Bool). b && node.block / bucket_blocks == at) (eq-eqb node.dev dev (sym device)) ∙ eq-eqb (node.block / bucket_blocks) at (sym bucket) in
          absurd (false≢true (sym other ∙ lies)))
          (λ (elsewhere : at ≢ node.block / bucket_blocks). inr elsewhere)
          (cases_eq at (node.block / bucket_blocks)))
          (λ (elsewhere : dev ≢ node.dev). inl elsewhere)
          (cases_eq dev node.dev)

      by : (b : Bool) → bucket_at (if b then changed (changed holds_node (node.block / bucket_blocks)) node.dev space else space) dev at ≡ bucket_at space dev at
      by true = bucket-unchanged holds_node node.dev (node.block / bucket_blocks) dev at space apart
      by false = refl

  nodes_leave : (nodes : List Place) (space : Space) → All (λ (node : Place). is_in_bucket dev at node ≡ false) nodes → bucket_at (fold with_place space nodes) dev at ≡ bucket_at space dev at
  nodes_leave [] space others = refl
  nodes_leave (node ∷ nodes) space others =
      nodes_leave nodes (with_place space node) (All-tail (λ (n : Place). is_in_bucket dev at n ≡ false) node nodes others) ∙ node_leaves space node (All-head (λ (n : Place). is_in_bucket dev at n ≡ false) node nodes others)

  -- The bucket is in use by files in the space of a volume with this layout, these keys and these nodes.
  module _ (buckets : BucketLaws) (layout : Layout) (is : is_layout layout ≡ true) (keys : KeyMap) (maps : IsKeyMap keys) (nodes : List Place) where
    stands : (live : List Key) → MayHoldNode layout first_block → IsIn (λ (state : State). node_state state ≡ Node) (fold with_key (blank layout) live)
    stands live may = stood_before (fold with_key (blank layout) live)
        (All-head (λ (place : Place). MayHoldNode layout place → HoldsNode (space_of layout live (first_block ∷ [])) place) first_block [] (buckets.opened_hold layout live (first_block ∷ []) is) may)

    pub keyed_in_use : (live : Live) → value_in keys Alloc pos ≡ Some (values.Live live) → live.blocks ≢ 0 → PosFits pos → MayHoldNode layout first_block → count_in_bucket nodes dev at ≡ 0
        → bucket_state (space_of layout (keys_of_buckets keys) nodes) dev at ≡ Some User
    keyed_in_use live value some fits may none =
        let alloc : Entries = entries_of keys Alloc in
        let uses : All UsesBlocks alloc = All-weaker (λ (e : Pos × Value). e.0 ≡ pos → e.1 ≡ values.Live live) UsesBlocks
        (λ e one same other other_is. subst (λ (n : ℕ). n ≢ 0) (ap (λ (l : Live). l.blocks) (same_Some live other (ap (λ (v : Value). live_of (Some v)) (sym (one same) ∙ other_is)))) some) alloc (one_there pos (values.Live live) alloc (maps.rises Alloc) value) in
        let blank_there = stands [] may in
        let keyed : IsIn IsUserOrFixed (fold with_key (blank layout) (keys_of_buckets keys)) = keys_set live some (within_all pos fits) alloc (blank layout) uses value (blank_there.0, blank_there.1, tt) in
        let plain = stands (keys_of_buckets keys) may in
        let same : plain.0 ≡ keyed.0 = same_Some plain.0 keyed.0 (sym plain.1 ∙ keyed.1) in
        let user : keyed.0.state ≡ User = plain_is_user keyed.0.state keyed.2 (subst (λ (bucket : Bucket). node_state bucket.state ≡ Node) same plain.2) in
        to_state (space_of layout (keys_of_buckets keys) nodes) dev at keyed.0 User
        (nodes_leave nodes (fold with_key (blank layout) (keys_of_buckets keys)) (none_passes (is_in_bucket dev at) nodes none) ∙ keyed.1) user
