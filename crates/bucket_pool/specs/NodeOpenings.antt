-- Where the nodes lie in the space that a volume is opened with.
use Rattle.std.proofs.Common.{◌≡◌, ℕ, zero, suc, ◌+◌, ◌/◌, ◌%◌, ◌<◌, ◌≤◌, ⊎_elim, Bool, true, false, ◌==◌, nat_lt, if◌then◌else◌, Option, Some, option_map, List, [], ◌∷◌, ◌++◌, length, map, take, drop, slice_get, refl, sym, ap, ◌∙◌, subst, arith}
use Rattle.std.specs.List.{All, fold, range_with_len}
use Rattle.std.specs.Prelude.{slice_index_or}
use Rattle.std.proofs.lemmas.Bool.{cases_lt, eq-eqb, false≢true, le-ltb, lt-ltb, ne_eqb}
use Rattle.std.proofs.lemmas.List.{get_or_past}
use Rattle.std.proofs.lemmas.List.Elements.{All-cons, All-nil}
use Rattle.std.proofs.lemmas.List.FromFn.{get_or-range_with_len, length-map-range_with_len, length-range_with_len}
use Rattle.std.proofs.lemmas.Option.{none-some as none_some, same_Some, slice_get-get_or, slice_get-map}
use Rattle.vol_types.specs.declared.keys.Key.{Key}
use Rattle.vol_types.specs.declared.layout.Layout.{Layout}
use Rattle.vol_types.specs.declared.pointers.Place.{Place}
use Rattle.vol_types.specs.declared.values.Live.{Live}
use Rattle.vol_types.specs.declared.values.Value.{Value}
use Rattle.vol_types.specs.declared.values.Value.TheVariants as values
use Rattle.vol_types.specs.Layouts.{is_layout}
use Rattle.vol_types.specs.LayoutLaws.{layout_found}
use Rattle.vol_types.specs.Limits.{bucket_blocks}
use Rattle.bucket_pool.specs.declared.bucket.Bucket.{Bucket}
use Rattle.bucket_pool.specs.declared.bucket.State.{State}
use Rattle.bucket_pool.specs.declared.bucket.State.TheVariants.{Super, Journal, Node, User, Free, Retired}
use Rattle.bucket_pool.specs.Buckets.{last_generation}
use Rattle.bucket_pool.specs.CountLaws.{length-changed}
use Rattle.bucket_pool.specs.Given.{bucket_at}
use Rattle.bucket_pool.specs.NodeBuckets.{AreFixed, HoldsNode, MayHoldNode, bucket_state}
use Rattle.bucket_pool.specs.NodeLaws.{changed_here, sizes_changed, to_state}
use Rattle.bucket_pool.specs.Opening.{as_live, blank, blank_bucket, blank_device, first_bucket, holds_node, live_state, node_state, space_of, with_key, with_place, with_value}
use Rattle.bucket_pool.specs.Places.{changed}
use Rattle.bucket_pool.specs.Space.{Space}
use Rattle.bucket_pool.specs.StayLaws.{changed_get, on_device, parts}

-- a bucket is there, and its state is such
abbrev StandsIn : (State → Type 0) → ℕ → ℕ → Space → Type 0
StandsIn P dev at space = (bucket : Bucket) × (bucket_at space dev at ≡ Some bucket) × P bucket.state

-- whether a bucket in this state has neither superblocks nor a part of the journal area
abbrev is_plain : State → Bool
is_plain Super = false
is_plain Journal = false
is_plain _ = true

-- What one bucket's change keeps of each bucket's state, it keeps in the space.
stands_changed : (P : State → Type 0) (f : Bucket → Bucket) → ((bucket : Bucket) → P bucket.state → P (f bucket).state) → (space : Space) (place_dev place_at dev at : ℕ) → StandsIn P dev at space
    → StandsIn P dev at (changed (changed f place_at) place_dev space)
stands_changed P f keeps space place_dev place_at dev at is =
    let change = changed f place_at in
    let after = changed change place_dev space in
    parts space dev at is.0 is.1 (λ buckets device there.
    ⊎_elim (λ same. (is.0, on_device after dev at buckets is.0 same there, is.2))
    (λ other.
    ⊎_elim (λ same. (is.0, on_device after dev at (change buckets) is.0 other same, is.2)) (λ made. (f is.0, on_device after dev at (change buckets) (f is.0) other made, keeps is.0 is.2)) (changed_get f place_at at buckets is.0 there))
    (changed_get change place_dev dev space buckets device))

fold_keeps : {A : Type 0} (R : Space → Type 0) (step : Space → A → Space) → ((space : Space) (x : A) → R space → R (step space x)) → (xs : List A) (space : Space) → R space → R (fold step space xs)
fold_keeps R step keeps [] space is = is
fold_keeps R step keeps (x ∷ xs) space is = fold_keeps R step keeps xs (step space x) (keeps space x is)

-- A key or a place changes one bucket, or none.
key_keeps : (R : Space → Type 0) → ((live : Live) (space : Space) (dev at : ℕ) → R space → R (changed (changed (as_live live) at) dev space)) → (space : Space) (key : Key) → R space → R (with_key space key)
key_keeps R keeps space key is = value_keeps key.value
  where
    choose : (b : Bool) (live : Live) → R (if b then changed (changed (as_live live) key.pos.offset) key.pos.inode space else space)
    choose true live = keeps live space key.pos.inode key.pos.offset is
    choose false live = is

    value_keeps : (value : Option Value) → R (with_value key.pos value space)
    value_keeps (Some (values.Live live)) = choose (key.pos.snapshot == 0) live
    value_keeps _ = is

place_keeps : (R : Space → Type 0) → ((space : Space) (dev at : ℕ) → R space → R (changed (changed holds_node at) dev space)) → (space : Space) (place : Place) → R space → R (with_place space place)
place_keeps R keeps space place is = choose (place.block % bucket_blocks == 0)
  where
    choose : (b : Bool) → R (if b then changed (changed holds_node (place.block / bucket_blocks)) place.dev space else space)
    choose true = keeps space place.dev (place.block / bucket_blocks) is
    choose false = is

module _ (R : Space → Type 0) (live_keeps : (live : Live) (space : Space) (dev at : ℕ) → R space → R (changed (changed (as_live live) at) dev space)) where
  keys_keep : (live : List Key) (space : Space) → R space → R (fold with_key space live)
  keys_keep = fold_keeps R with_key (key_keeps R live_keeps)

  opened_keep : ((space : Space) (dev at : ℕ) → R space → R (changed (changed holds_node at) dev space)) → (layout : Layout) (live : List Key) (nodes : List Place) → R (blank layout) → R (space_of layout live nodes)
  opened_keep node_keeps layout live nodes is = fold_keeps R with_place (place_keeps R node_keeps) nodes (fold with_key (blank layout) live) (keys_keep live (blank layout) is)

-- the states of a fresh space
range_get : (n k : ℕ) → k < n → slice_get (range_with_len 0 n) k ≡ Some k
range_get n k lt = slice_get-get_or (range_with_len 0 n) k 0 (subst (λ (m : ℕ). k < m) (sym (length-range_with_len 0 n)) lt) ∙ ap Some (get_or-range_with_len 0 n k 0 lt ∙ (let same : 0 + k ≡ k = omega arith in same))

blank_get : (first blocks at : ℕ) → at < blocks / bucket_blocks → slice_get (blank_device first blocks) at ≡ Some (blank_bucket first at)
blank_get first blocks at lt = slice_get-map (blank_bucket first) (range_with_len 0 (blocks / bucket_blocks)) at ∙ ap (option_map (blank_bucket first)) (range_get (blocks / bucket_blocks) at lt)

joined_first : {X Y : Type 0} (f g : X → Y) (m k : ℕ) (xs : List X) (x : X) → slice_get xs k ≡ Some x → k < m → slice_get (map f (take m xs) ++ map g (drop m xs)) k ≡ Some (f x)
joined_first f g m k [] x got lt = absurd (none_some x got)
joined_first f g zero k (y ∷ ys) x got lt = absurd (omega (arith, lt))
joined_first f g (suc m) zero (y ∷ ys) x got lt = ap (λ z. Some (f z)) (same_Some y x got)
joined_first f g (suc m) (suc k) (y ∷ ys) x got lt = joined_first f g m k ys x got (let less : k < m = omega (arith, lt) in less)

joined_last : {X Y : Type 0} (f g : X → Y) (m k : ℕ) (xs : List X) (x : X) → slice_get xs k ≡ Some x → m ≤ k → slice_get (map f (take m xs) ++ map g (drop m xs)) k ≡ Some (g x)
joined_last f g m k [] x got le = absurd (none_some x got)
joined_last f g zero k (y ∷ ys) x got le = slice_get-map g (y ∷ ys) k ∙ ap (option_map g) got
joined_last f g (suc m) zero (y ∷ ys) x got le = absurd (omega (arith, le))
joined_last f g (suc m) (suc k) (y ∷ ys) x got le = joined_last f g m k ys x got (let less : m ≤ k = omega (arith, le) in less)

joined_sizes : (f g : ℕ → List Bucket) (size : ℕ → ℕ) → ((n : ℕ) → length (f n) ≡ size n) → ((n : ℕ) → length (g n) ≡ size n) → (m : ℕ) (blocks : List ℕ) → map length (map f (take m blocks) ++ map g (drop m blocks)) ≡ map size blocks
joined_sizes f g size first last zero [] = refl
joined_sizes f g size first last zero (n ∷ ns) = λ i. last n i ∷ joined_sizes f g size first last zero ns i
joined_sizes f g size first last (suc m) [] = refl
joined_sizes f g size first last (suc m) (n ∷ ns) = λ i. first n i ∷ joined_sizes f g size first last m ns i

blank_size : (first blocks : ℕ) → length (blank_device first blocks) ≡ blocks / bucket_blocks
blank_size first blocks = length-map-range_with_len (blank_bucket first) 0 (blocks / bucket_blocks)

blank_sizes : (layout : Layout) → map length (blank layout) ≡ map (λ blocks. blocks / bucket_blocks) layout.blocks
blank_sizes layout =
    joined_sizes (blank_device (first_bucket layout.journal)) (blank_device 1) (λ blocks. blocks / bucket_blocks) (blank_size (first_bucket layout.journal)) (blank_size 1) layout.metadata_replicas layout.blocks

module _ (layout : Layout) (dev at : ℕ) (lt : dev < length layout.blocks) (within : at < slice_index_or layout.blocks dev 0 / bucket_blocks) where
  abbrev blocks : ℕ
  blocks = slice_index_or layout.blocks dev 0

  there : slice_get layout.blocks dev ≡ Some blocks
  there = slice_get-get_or layout.blocks dev 0 lt

  first_stands : dev < layout.metadata_replicas → bucket_at (blank layout) dev at ≡ Some (blank_bucket (first_bucket layout.journal) at)
  first_stands on =
      let first = first_bucket layout.journal in
      on_device (blank layout) dev at (blank_device first blocks) (blank_bucket first at) (joined_first (blank_device first) (blank_device 1) layout.metadata_replicas dev layout.blocks blocks there on) (blank_get first blocks at within)

  last_stands : layout.metadata_replicas ≤ dev → bucket_at (blank layout) dev at ≡ Some (blank_bucket 1 at)
  last_stands off =
      on_device (blank layout) dev at (blank_device 1 blocks) (blank_bucket 1 at) (joined_last (blank_device (first_bucket layout.journal)) (blank_device 1) layout.metadata_replicas dev layout.blocks blocks there off) (blank_get 1 blocks at within)

  -- what holds of the bucket of either kind of device
  blank_stands : (P : State → Type 0) → (dev < layout.metadata_replicas → P (blank_bucket (first_bucket layout.journal) at).state) → (layout.metadata_replicas ≤ dev → P (blank_bucket 1 at).state) → StandsIn P dev at (blank layout)
  blank_stands P on off =
      ⊎_elim (λ is. (blank_bucket (first_bucket layout.journal) at, first_stands is, on is)) (λ is. (blank_bucket 1 at, last_stands is, off is)) (cases_lt dev layout.metadata_replicas)

-- a bucket behind the superblocks
blank_behind : (first at : ℕ) (below : Bool) → 0 < at → nat_lt at first ≡ below → (blank_bucket first at).state ≡ (if below then Journal else Free)
blank_behind first at below behind is =
    ap (λ b. if b then Super else if nat_lt at first then Journal else Free) (ne_eqb at 0 (λ zero_is. omega (arith, behind, zero_is))) ∙ ap (λ b. if b then Journal else Free) is

-- the states that keys and nodes leave
live_plain : (live : Live) (state : State) → is_plain state ≡ true → is_plain (live_state live state) ≡ true
live_plain live Super is = is
live_plain live Journal is = is
live_plain live _ is = used (live.blocks == 0) (live.generation == last_generation)
  where
    used : (b c : Bool) → is_plain (if b then if c then Retired else Free else User) ≡ true
    used true true = refl
    used true false = refl
    used false c = refl

node_made : (state : State) → is_plain state ≡ true → node_state state ≡ Node
node_made Super is = absurd (false≢true is)
node_made Journal is = absurd (false≢true is)
node_made _ is = refl

-- The first place of a plain bucket holds its node.
place_made : (space : Space) (place : Place) → place.block % bucket_blocks ≡ 0 → StandsIn (λ state. is_plain state ≡ true) place.dev (place.block / bucket_blocks) space
    → StandsIn (λ state. state ≡ Node) place.dev (place.block / bucket_blocks) (with_place space place)
place_made space place begins is =
    let dev = place.dev in
    let at = place.block / bucket_blocks in
    let change = changed holds_node at in
    parts space dev at is.0 is.1 (λ buckets device found.
    subst (λ (b : Bool). StandsIn (λ state. state ≡ Node) dev at (if b then changed change dev space else space)) (sym (eq-eqb (place.block % bucket_blocks) 0 begins))
    (holds_node is.0, on_device (changed change dev space) dev at (change buckets) (holds_node is.0) (changed_here change dev space buckets device) (changed_here holds_node at buckets is.0 found), node_made is.0.state is.2))

-- Each key and each node keeps what stands in a bucket.
live_stands : (P : State → Type 0) → ((live : Live) (state : State) → P state → P (live_state live state)) → (dev at : ℕ) (live : Live) (space : Space) (place_dev place_at : ℕ) → StandsIn P dev at space
    → StandsIn P dev at (changed (changed (as_live live) place_at) place_dev space)
live_stands P keeps dev at live space place_dev place_at = stands_changed P (as_live live) (λ bucket. keeps live bucket.state) space place_dev place_at dev at

node_stands : (P : State → Type 0) → ((state : State) → P state → P (node_state state)) → (dev at : ℕ) (space : Space) (place_dev place_at : ℕ) → StandsIn P dev at space → StandsIn P dev at (changed (changed holds_node place_at) place_dev space)
node_stands P keeps dev at space place_dev place_at = stands_changed P holds_node (λ bucket. keeps bucket.state) space place_dev place_at dev at

node_plain : (state : State) → is_plain state ≡ true → is_plain (node_state state) ≡ true
node_plain state is = ap is_plain (node_made state is)

-- The places of the list that may hold nodes do, where their buckets were plain.
nodes_hold : (layout : Layout) (nodes : List Place) (space : Space) → ((place : Place) → MayHoldNode layout place → StandsIn (λ state. is_plain state ≡ true) place.dev (place.block / bucket_blocks) space)
    → All (λ place. MayHoldNode layout place → HoldsNode (fold with_place space nodes) place) nodes
nodes_hold layout [] space plain = All-nil (λ place. MayHoldNode layout place → HoldsNode (fold with_place space []) place)
nodes_hold layout (node ∷ nodes) space plain =
    All-cons (λ place. MayHoldNode layout place → HoldsNode (fold with_place (with_place space node) nodes) place) node nodes holds
    (nodes_hold layout nodes (with_place space node) (λ place may.
    place_keeps (StandsIn (λ state. is_plain state ≡ true) place.dev (place.block / bucket_blocks)) (node_stands (λ state. is_plain state ≡ true) node_plain place.dev (place.block / bucket_blocks)) space node (plain place may)))
  where
    holds : MayHoldNode layout node → HoldsNode (fold with_place (with_place space node) nodes) node
    holds may =
        let stands = fold_keeps (StandsIn (λ state. state ≡ Node) node.dev (node.block / bucket_blocks)) with_place
        (place_keeps (StandsIn (λ state. state ≡ Node) node.dev (node.block / bucket_blocks)) (node_stands (λ state. state ≡ Node) (λ state is. ap node_state is) node.dev (node.block / bucket_blocks))) nodes
        (with_place space node) (place_made space node may.begins (plain node may)) in
        to_state (fold with_place (with_place space node) nodes) node.dev (node.block / bucket_blocks) stands.0 Node stands.1 stands.2

module _ (layout : Layout) (is : is_layout layout ≡ true) (live : List Key) where
  -- a fixed bucket of the fresh space stays
  fixed_stands : (fixed : State) → ((some : Live) → live_state some fixed ≡ fixed) → node_state fixed ≡ fixed → (dev at : ℕ) (nodes : List Place) → StandsIn (λ state. state ≡ fixed) dev at (blank layout)
      → bucket_state (space_of layout live nodes) dev at ≡ Some fixed
  fixed_stands fixed stays_live stays_node dev at nodes stands =
      let after = opened_keep (StandsIn (λ state. state ≡ fixed) dev at)
      (live_stands (λ state. state ≡ fixed) (λ some state same. ap (live_state some) same ∙ stays_live some) dev at) (node_stands (λ state. state ≡ fixed) (λ state same. ap node_state same ∙ stays_node) dev at) layout live nodes stands in
      to_state (space_of layout live nodes) dev at after.0 fixed after.1 after.2

  sizes_stay : (nodes : List Place) → map length (space_of layout live nodes) ≡ map (λ blocks. blocks / bucket_blocks) layout.blocks
  sizes_stay nodes =
      opened_keep (λ space. map length space ≡ map (λ blocks. blocks / bucket_blocks) layout.blocks)
      (λ some space dev at same. sizes_changed (changed (as_live some) at) dev space (length-changed (as_live some) at) ∙ same)
      (λ space dev at same. sizes_changed (changed holds_node at) dev space (length-changed holds_node at) ∙ same) layout live nodes (blank_sizes layout)

  pub opened_fixed : (nodes : List Place) → AreFixed layout (space_of layout live nodes)
  opened_fixed nodes =
      let found = layout_found layout is in
      record {
        sizes = sizes_stay nodes;
        superblocks = λ dev lt.
            let large = (found.sizes dev 0 lt).blocks_range.0 in
            let within : 0 < slice_index_or layout.blocks dev 0 / bucket_blocks = omega (arith, large) in
            fixed_stands Super (λ some. refl) refl dev 0 nodes (blank_stands layout dev 0 lt within (λ state. state ≡ Super) (λ on. refl) (λ off. refl));
        journal = λ dev at on past before.
            let few = found.metadata.1 in
            let lt : dev < length layout.blocks = omega (arith, on, few) in
            let half = (found.sizes dev 0 lt).half in
            let whole = found.journal_buckets in
            let first : at < first_bucket layout.journal = omega (arith, before, whole) in
            let within : at < slice_index_or layout.blocks dev 0 / bucket_blocks = omega (arith, before, half) in
            fixed_stands Journal (λ some. refl) refl dev at nodes
            (blank_stands layout dev at lt within (λ state. state ≡ Journal) (λ _. blank_behind (first_bucket layout.journal) at true past (lt-ltb at (first_bucket layout.journal) first)) (λ off. absurd (omega (arith, on, off))));
      }

  plain_stands : (place : Place) → MayHoldNode layout place → StandsIn (λ state. is_plain state ≡ true) place.dev (place.block / bucket_blocks) (fold with_key (blank layout) live)
  plain_stands place may =
      let dev = place.dev in
      let at = place.block / bucket_blocks in
      let room = may.within in
      let lt = ⊎_elim (λ (less : dev < length layout.blocks). less) (λ past. absurd (none_past (slice_index_or layout.blocks dev 0) room (get_or_past layout.blocks dev 0 past))) (cases_lt dev (length layout.blocks)) in
      let behind : 0 < at = omega (arith, may.past_superblocks) in
      let within : at < slice_index_or layout.blocks dev 0 / bucket_blocks = omega (arith, room) in
      keys_keep (StandsIn (λ state. is_plain state ≡ true) dev at) (live_stands (λ state. is_plain state ≡ true) live_plain dev at) live (blank layout)
      (blank_stands layout dev at lt within (λ state. is_plain state ≡ true)
      (λ on.
      let past = may.past_journal on in
      plain_from (first_bucket layout.journal) at behind (omega (arith, past)))
      (λ off. plain_from 1 at behind (omega (arith, behind))))
    where
      plain_from : (first at : ℕ) → 0 < at → first ≤ at → is_plain (blank_bucket first at).state ≡ true
      plain_from first at behind le = ap is_plain (blank_behind first at false behind (le-ltb at first le))

      none_past : (blocks : ℕ) → place.block + bucket_blocks ≤ blocks → blocks ≡ 0 → ⊥
      none_past blocks le none = omega (arith, le, none)

  pub opened_hold : (nodes : List Place) → All (λ place. MayHoldNode layout place → HoldsNode (space_of layout live nodes) place) nodes
  opened_hold nodes = nodes_hold layout nodes (fold with_key (blank layout) live) plain_stands
