-- What each call keeps of the buckets that hold nodes, that are held back and that are never given, and where nodes are put.
use Rattle.std.proofs.Common.{◌≡◌, ℕ, zero, suc, ◌+◌, ◌*◌, ◌/◌, ◌%◌, ◌<◌, ◌≤◌, ◌⊎◌, ⊎_elim, inl, inr, Bool, true, false, nat_lt, if◌then◌else◌, Option, None, Some, option_map, option_and_then, List, [], ◌∷◌, length, map, take, slice_get, slice_index, refl, sym, ap, ◌∙◌, subst, arith}
use Rattle.std.specs.List.{All, list_any, position_or_len, range_with_len}
use Rattle.std.specs.Prelude.{slice_index_or}
use Rattle.std.proofs.lemmas.Bool.{and_parts, cases_eq, cases_lt, false≢true, lt-leb, lt-ltb}
use Rattle.std.proofs.lemmas.List.{length-map}
use Rattle.std.proofs.lemmas.List.Elements.{All-cons, All-nil}
use Rattle.std.proofs.lemmas.Option.{get_or_from_slice_get, none-some as none_some, same_Some, slice_get-map, slice_get_within}
use Rattle.vol_types.specs.declared.layout.Layout.{Layout}
use Rattle.vol_types.specs.declared.pointers.Place.{Place}
use Rattle.vol_types.specs.declared.pointers.Pointer.{Pointer}
use Rattle.vol_types.specs.Limits.{bucket_blocks}
use Rattle.bucket_pool.specs.declared.bucket.Bucket.{Bucket}
use Rattle.bucket_pool.specs.declared.bucket.Run.{Run}
use Rattle.bucket_pool.specs.declared.bucket.State.{State}
use Rattle.bucket_pool.specs.declared.bucket.State.TheVariants.{Super, Journal, Node, Waiting}
use Rattle.bucket_pool.specs.Buckets.{is_free, is_free_state, is_current_of, kept_at, let_go, opened_for, settled, waited, waited_by}
use Rattle.bucket_pool.specs.CountLaws.{first_there, length-changed}
use Rattle.bucket_pool.specs.Given.{bucket_at, is_due, is_open_state, is_shut_state, is_used_state}
use Rattle.bucket_pool.specs.NodeBuckets.{AreInOtherBuckets, AreFixed, BeginsBucket, HoldsNode, IsHeldPast, KeepsNodes, MayHoldNode, bucket_state, state_at}
use Rattle.bucket_pool.specs.Places.{changed, each_from, picked_from, with_pick}
use Rattle.bucket_pool.specs.Space.{Space, as_node, can_give, emptied, first_free, has_open_room, have_free, kept, marked, node_place, node_places, noded, pointer_to, readied, reopened, reserved, reserved_at, reserved_on, settled_space, spot, with_node}
use Rattle.bucket_pool.specs.StayLaws.{changed_get, changed_stays, chosen, each_get, emptied_stays, first_is_free, given_by, kept_stays, noded_stays, on_device, parts, reserved_stays, settled_stays}

-- a bucket's state, and the bucket
pub from_state : (space : Space) (dev at : ℕ) (state : State) → bucket_state space dev at ≡ Some state → (bucket : Bucket) × (bucket_at space dev at ≡ Some bucket) × (bucket.state ≡ state)
from_state space dev at state is = given_by (λ (b : Bucket). b.state) (bucket_at space dev at) state is

pub to_state : (space : Space) (dev at : ℕ) (bucket : Bucket) (state : State) → bucket_at space dev at ≡ Some bucket → bucket.state ≡ state → bucket_state space dev at ≡ Some state
to_state space dev at bucket state there is = ap (option_map (λ (b : Bucket). b.state)) there ∙ ap Some is

-- buckets in such a state are left as they are
abbrev Stays : (State → Type 0) → Space → Space → Type 0
Stays P before after = (dev at : ℕ) (bucket : Bucket) → bucket_at before dev at ≡ Some bucket → P bucket.state → bucket_at after dev at ≡ Some bucket

module _ (P : State → Type 0) (before after : Space) (stays : Stays P before after) where
  state_stays : (dev at : ℕ) (state : State) → P state → bucket_state before dev at ≡ Some state → bucket_state after dev at ≡ Some state
  state_stays dev at state is there =
      let found = from_state before dev at state there in
      to_state after dev at found.0 state (stays dev at found.0 found.1 (subst P (sym found.2) is)) found.2

  pub fixed_by : P Super → P Journal → map length after ≡ map length before → (layout : Layout) → AreFixed layout before → AreFixed layout after
  fixed_by super journal sizes layout are = record {
    sizes = sizes ∙ are.sizes;
    superblocks = λ dev lt. state_stays dev 0 Super super (are.superblocks dev lt);
    journal = λ dev at on past within. state_stays dev at Journal journal (are.journal dev at on past within);
  }

  pub waiting_by : (past : ℕ) → ((entry : ℕ) → past < entry → P (Waiting entry)) → (place : Place) (entry : ℕ) → state_at before place ≡ Some (Waiting entry) → past < entry → IsHeldPast past after place
  waiting_by past waiting place entry is lt = inr (entry, state_stays place.dev (place.block / bucket_blocks) (Waiting entry) (waiting entry lt) is, lt)

  pub keeps_by : (past : ℕ) → P Super → P Journal → P Node → ((entry : ℕ) → past < entry → P (Waiting entry)) → map length after ≡ map length before → KeepsNodes past before after
  keeps_by past super journal node waiting sizes = record {
    nodes = λ place. state_stays place.dev (place.block / bucket_blocks) Node node;
    held = λ place. ⊎_elim (λ holds. inl (state_stays place.dev (place.block / bucket_blocks) Node node holds)) (λ waits. waiting_by past waiting place waits.0 waits.1 waits.2);
    fixed = fixed_by super journal sizes;
  }

-- No call adds a bucket or takes one away.
length-each_from : {X Y : Type 0} (f : ℕ → X → Y) (first : ℕ) (xs : List X) → length (each_from f first xs) ≡ length xs
length-each_from f first [] = refl
length-each_from f first (x ∷ xs) = ap suc (length-each_from f (suc first) xs)

sizes_each : (f : ℕ → List Bucket → List Bucket) (first : ℕ) (space : Space) → ((dev : ℕ) (buckets : List Bucket) → length (f dev buckets) ≡ length buckets) → map length (each_from f first space) ≡ map length space
sizes_each f first [] same = refl
sizes_each f first (x ∷ xs) same = λ i. same first x i ∷ sizes_each f (suc first) xs same i

sizes_map : (f : List Bucket → List Bucket) (space : Space) → ((buckets : List Bucket) → length (f buckets) ≡ length buckets) → map length (map f space) ≡ map length space
sizes_map f [] same = refl
sizes_map f (x ∷ xs) same = λ i. same x i ∷ sizes_map f xs same i

pub sizes_changed : (f : List Bucket → List Bucket) (dev : ℕ) (space : Space) → ((buckets : List Bucket) → length (f buckets) ≡ length buckets) → map length (changed f dev space) ≡ map length space
sizes_changed f dev [] same = refl
sizes_changed f zero (x ∷ xs) same = λ i. same x i ∷ map length xs
sizes_changed f (suc dev) (x ∷ xs) same = ap (λ rest. length x ∷ rest) (sizes_changed f dev xs same)

sizes_picked : {G : Type 0} (pick : ℕ → List Bucket → Option (G × List Bucket)) (first count : ℕ) (space : Space)
    → ((dev : ℕ) (buckets : List Bucket) (given : G) (after : List Bucket) → pick dev buckets ≡ Some (given, after) → length after ≡ length buckets) → map length (picked_from pick first count space).left ≡ map length space
sizes_picked pick first count [] same = refl
sizes_picked pick first zero (x ∷ xs) same = refl
sizes_picked {G = G} pick first (suc count) (x ∷ xs) same = choose (pick first x) refl (sizes_picked pick (suc first) (suc count) xs same) (sizes_picked pick (suc first) count xs same)
  where
    choose : (o : Option (G × List Bucket)) → pick first x ≡ o → map length (picked_from pick (suc first) (suc count) xs).left ≡ map length xs → map length (picked_from pick (suc first) count xs).left ≡ map length xs
        → map length (with_pick o x (picked_from pick (suc first) (suc count) xs) (picked_from pick (suc first) count xs)).left ≡ length x ∷ map length xs
    choose None asked none some = ap (λ rest. length x ∷ rest) none
    choose (Some pair) asked none some = λ i. same first x pair.0 pair.1 asked i ∷ some i

size_readied : (count actor : ℕ) (buckets : List Bucket) → length (readied count actor buckets) ≡ length buckets
size_readied count actor buckets = choose (has_open_room count actor buckets)
  where
    choose : (b : Bool) → length (if b then buckets else reopened actor buckets) ≡ length buckets
    choose true = refl
    choose false =
        length-changed (opened_for actor) (first_free buckets) (changed let_go (position_or_len (is_current_of actor) buckets) buckets) ∙ length-changed let_go (position_or_len (is_current_of actor) buckets) buckets

size_reserved : (count actor : ℕ) (held : List ℕ) (dev : ℕ) (buckets : List Bucket) (pointer : Pointer) (after : List Bucket) → reserved_on count actor held dev buckets ≡ Some (pointer, after) → length after ≡ length buckets
size_reserved count actor held dev buckets pointer after is =
    let ready = readied count actor buckets in
    let place = spot count actor buckets in
    let both = chosen (can_give count actor (slice_index held dev) buckets) (reserved_at count dev place ready) (pointer, after) is in
    let made = given_by (λ b. (pointer_to count dev place b, changed (marked count) place ready)) (slice_get ready place) (pointer, after) both.1 in
    ap (λ (p : Pointer × List Bucket). length p.1) (sym made.2) ∙ length-changed (marked count) place ready ∙ size_readied count actor buckets

size_noded : (b : Bool) (buckets : List Bucket) → length (if b then with_node buckets else buckets) ≡ length buckets
size_noded true buckets = length-changed as_node (first_free buckets) buckets
size_noded false buckets = refl

-- Each call, of what it leaves as it is.
pub noded_keeps : (past count : ℕ) (space : Space) → KeepsNodes past space (noded count space)
noded_keeps past count space =
    keeps_by (λ state. is_free_state state ≡ false) space (noded count space) (noded_stays count space) past refl refl refl (λ entry lt. refl)
    (sizes_each (λ dev buckets. if nat_lt dev count then with_node buckets else buckets) 0 space (λ dev. size_noded (nat_lt dev count)))

pub reserved_keeps : (past count actor replicas : ℕ) (held : List ℕ) (space : Space) → KeepsNodes past space (reserved count actor replicas held space).left
reserved_keeps past count actor replicas held space =
    keeps_by (λ state. is_shut_state state ≡ true) space (reserved count actor replicas held space).left (reserved_stays count actor replicas held space) past refl refl refl (λ entry lt. refl)
    (sizes_picked (reserved_on count actor held) 0 replicas space (size_reserved count actor held))

pub kept_keeps : (past actor : ℕ) (runs : List Run) (space : Space) → KeepsNodes past space (kept actor runs space)
kept_keeps past actor runs space =
    keeps_by (λ state. is_open_state state ≡ false) space (kept actor runs space) (kept_stays actor runs space) past refl refl refl (λ entry lt. refl)
    (sizes_each (λ dev. each_from (kept_at actor runs dev) 0) 0 space (λ dev. length-each_from (kept_at actor runs dev) 0))

pub settled_keeps : (past seq : ℕ) (space : Space) → seq ≤ past → KeepsNodes past space (settled_space seq space)
settled_keeps past seq space le =
    keeps_by (λ state. is_due seq state ≡ false) space (settled_space seq space) (settled_stays seq space) past refl refl refl (λ entry lt. lt-leb entry seq (let less : seq < entry = omega (arith, le, lt) in less))
    (sizes_map (map (settled seq)) space (λ buckets. length-map buckets (settled seq)))

-- An entry empties the bucket of a place, and none that lies apart.
pub changed_here : {X : Type 0} (f : X → X) (at : ℕ) (xs : List X) (x : X) → slice_get xs at ≡ Some x → slice_get (changed f at xs) at ≡ Some (f x)
changed_here f at [] x got = absurd (none_some x got)
changed_here f zero (y ∷ ys) x got = ap (λ z. Some (f z)) (same_Some y x got)
changed_here f (suc at) (y ∷ ys) x got = changed_here f at ys x got

pub emptied_waits : (place : Place) (seq : ℕ) (space : Space) → HoldsNode space place → state_at (emptied place seq space) place ≡ Some (Waiting seq)
emptied_waits place seq space holds =
    let dev = place.dev in
    let at = place.block / bucket_blocks in
    let found = from_state space dev at Node holds in
    parts space dev at found.0 found.1 (λ buckets device there.
    to_state (emptied place seq space) dev at (waited seq found.0) (Waiting seq)
    (on_device (emptied place seq space) dev at (changed (waited seq) at buckets) (waited seq found.0) (changed_here (changed (waited seq) at) dev space buckets device) (changed_here (waited seq) at buckets found.0 there))
    (ap (λ state. (waited_by seq found.0 state).state) found.2))

emptied_elsewhere : (place : Place) (seq : ℕ) (space : Space) (other : Place) (bucket : Bucket) → AreInOtherBuckets place other → bucket_at space other.dev (other.block / bucket_blocks) ≡ Some bucket
    → bucket_at (emptied place seq space) other.dev (other.block / bucket_blocks) ≡ Some bucket
emptied_elsewhere place seq space other bucket apart is =
    let dev = other.dev in
    let at = other.block / bucket_blocks in
    let change = changed (waited seq) (place.block / bucket_blocks) in
    parts space dev at bucket is (λ buckets device there.
    ⊎_elim (λ devices. on_device (emptied place seq space) dev at buckets bucket (changed_stays change place.dev dev space buckets device (λ same. absurd (devices (sym same)))) there)
    (λ blocks.
    ⊎_elim (λ same. on_device (emptied place seq space) dev at buckets bucket same there)
    (λ other_buckets. on_device (emptied place seq space) dev at (change buckets) bucket other_buckets
    (changed_stays (waited seq) (place.block / bucket_blocks) at buckets bucket there (λ same. absurd (blocks (sym same)))))
    (changed_get change place.dev dev space buckets device))
    apart)

pub emptied_apart : (place : Place) (seq : ℕ) (space : Space) (other : Place) → AreInOtherBuckets place other → HoldsNode space other → HoldsNode (emptied place seq space) other
emptied_apart place seq space other apart holds =
    let found = from_state space other.dev (other.block / bucket_blocks) Node holds in
    to_state (emptied place seq space) other.dev (other.block / bucket_blocks) found.0 Node (emptied_elsewhere place seq space other found.0 apart found.1) found.2

-- a place lies in the same bucket as another one, or apart from it
pub apart_or_same : (one other : Place) → AreInOtherBuckets one other ⊎ ((one.dev ≡ other.dev) × (one.block / bucket_blocks ≡ other.block / bucket_blocks))
apart_or_same one other =
    ⊎_elim (λ devices. ⊎_elim (λ blocks. inr (devices, blocks)) (λ blocks. inl (inr blocks)) (cases_eq (one.block / bucket_blocks) (other.block / bucket_blocks))) (λ devices. inl (inl devices)) (cases_eq one.dev other.dev)

pub emptied_held : (past : ℕ) (place : Place) (seq : ℕ) (space : Space) (other : Place) → past < seq → IsHeldPast past space other → IsHeldPast past (emptied place seq space) other
emptied_held past place seq space other lt held =
    ⊎_elim (λ holds.
    ⊎_elim (λ apart. inl (emptied_apart place seq space other apart holds))
    (λ same.
    let waits = emptied_waits place seq space (same_state space same holds) in
    inr (seq, other_state (emptied place seq space) same waits, lt))
    (apart_or_same place other))
    (λ waits. waiting_by (λ state. is_used_state state ≡ false) space (emptied place seq space) (emptied_stays place seq space) past (λ entry later. refl) other waits.0 waits.1 waits.2)
    held
  where
    Same : Type 0
    Same = (place.dev ≡ other.dev) × (place.block / bucket_blocks ≡ other.block / bucket_blocks)

    other_state : {state : State} (now : Space) → Same → state_at now place ≡ Some state → state_at now other ≡ Some state
    other_state now same is = sym (λ i. bucket_state now (same.0 i) (same.1 i)) ∙ is

    same_state : {state : State} (now : Space) → Same → state_at now other ≡ Some state → state_at now place ≡ Some state
    same_state now same is = (λ i. bucket_state now (same.0 i) (same.1 i)) ∙ is

-- What lies apart is held as before, whatever the entry is.
pub emptied_held_apart : (past : ℕ) (place : Place) (seq : ℕ) (space : Space) (other : Place) → AreInOtherBuckets place other → IsHeldPast past space other → IsHeldPast past (emptied place seq space) other
emptied_held_apart past place seq space other apart held =
    ⊎_elim (λ holds. inl (emptied_apart place seq space other apart holds))
    (λ waits. waiting_by (λ state. is_used_state state ≡ false) space (emptied place seq space) (emptied_stays place seq space) past (λ entry later. refl) other waits.0 waits.1 waits.2)
    held

pub emptied_fixed : (layout : Layout) (place : Place) (seq : ℕ) (space : Space) → AreFixed layout space → AreFixed layout (emptied place seq space)
emptied_fixed layout place seq space =
    fixed_by (λ state. is_used_state state ≡ false) space (emptied place seq space) (emptied_stays place seq space) refl refl
    (sizes_changed (changed (waited seq) (place.block / bucket_blocks)) place.dev space (length-changed (waited seq) (place.block / bucket_blocks))) layout

-- What holds of each place that is given holds device by device.
each_taken_from : (P : Place → Type 0) (first count : ℕ) (space : Space) → ((dev k : ℕ) (buckets : List Bucket) → dev ≡ first + k → slice_get space k ≡ Some buckets → k < count → P (node_place dev buckets))
    → All P (each_from node_place first (take count space))
each_taken_from P first zero space each = All-nil P
each_taken_from P first (suc count) [] each = All-nil P
each_taken_from P first (suc count) (x ∷ xs) each =
    All-cons P (node_place first x) (each_from node_place (suc first) (take count xs)) (each first 0 x (omega arith) refl (omega arith))
    (each_taken_from P (suc first) count xs (λ dev k buckets is got lt. each dev (suc k) buckets (let same : dev ≡ first + suc k = omega (arith, is) in same) got (let more : suc k < suc count = omega (arith, lt) in more)))

each_taken : (P : Place → Type 0) (count : ℕ) (space : Space) → ((dev : ℕ) (buckets : List Bucket) → slice_get space dev ≡ Some buckets → dev < count → P (node_place dev buckets)) → All P (node_places count space)
each_taken P count space each =
    each_taken_from P 0 count space (λ dev k buckets is got lt.
    let same : k ≡ dev = omega (arith, is) in
    each dev buckets (ap (λ n. slice_get space n) (sym same) ∙ got) (let less : dev < count = omega (arith, is, lt) in less))

any_free : (count dev : ℕ) (space : Space) (buckets : List Bucket) → have_free count space ≡ true → slice_get space dev ≡ Some buckets → dev < count → list_any is_free buckets ≡ true
any_free count dev [] buckets all got lt = absurd (none_some buckets got)
any_free zero dev (x ∷ xs) buckets all got lt = absurd (omega (arith, lt))
any_free (suc count) zero (x ∷ xs) buckets all got lt = ap (list_any is_free) (sym (same_Some x buckets got)) ∙ (and_parts (list_any is_free x) (have_free count xs) all).0
any_free (suc count) (suc dev) (x ∷ xs) buckets all got lt = any_free count dev xs buckets (and_parts (list_any is_free x) (have_free count xs) all).1 got (let less : dev < count = omega (arith, lt) in less)

one_free : (count dev : ℕ) (space : Space) (buckets : List Bucket) → have_free count space ≡ true → slice_get space dev ≡ Some buckets → dev < count → first_free buckets < length buckets
one_free count dev space buckets all got lt = first_there is_free buckets (any_free count dev space buckets all got lt)

member_at : {X : Type 0} (xs : List X) (k : ℕ) → k < length xs → (x : X) × (slice_get xs k ≡ Some x)
member_at [] k lt = absurd (omega (arith, lt))
member_at (x ∷ xs) zero lt = (x, refl)
member_at (x ∷ xs) (suc k) lt = member_at xs k (let less : k < length xs = omega (arith, lt) in less)

whole_buckets : (n : ℕ) → bucket_blocks * n / bucket_blocks ≡ n
whole_buckets n = omega arith

pub taken_hold : (count : ℕ) (space : Space) → have_free count space ≡ true → All (HoldsNode (noded count space)) (node_places count space)
taken_hold count space all = each_taken (HoldsNode (noded count space)) count space (λ dev buckets got lt.
    let first = first_free buckets in
    let member = member_at buckets first (one_free count dev space buckets all got lt) in
    let choice = λ (n : ℕ) (list : List Bucket). if nat_lt n count then with_node list else list in
    let taken = ap (λ b. slice_get (if b then with_node buckets else buckets) first) (lt-ltb dev count lt) ∙ changed_here as_node first buckets member.0 member.1 in
    let there = on_device (noded count space) dev first (choice dev buckets) (as_node member.0) (each_get choice 0 dev dev space buckets (omega arith) got) taken in
    ap (bucket_state (noded count space) dev) (whole_buckets first) ∙ to_state (noded count space) dev first (as_node member.0) Node there refl)

pub taken_begin : (count : ℕ) (space : Space) → have_free count space ≡ true → All (BeginsBucket space) (node_places count space)
taken_begin count space all = each_taken (BeginsBucket space) count space (λ dev buckets got lt. record {
  at = first_free buckets;
  begins = refl;
  within = subst (λ (list : List Bucket). first_free buckets < length list) (sym (get_or_from_slice_get space dev buckets [] got)) (one_free count dev space buckets all got lt);
})

devices_from : (first count : ℕ) (space : Space) → count ≤ length space → map (λ (place : Place). place.dev) (each_from node_place first (take count space)) ≡ range_with_len first count
devices_from first zero space le = refl
devices_from first (suc count) [] le = absurd (omega (arith, le))
devices_from first (suc count) (x ∷ xs) le =
    ap (λ rest. first ∷ rest) (devices_from (suc first) count xs (let less : count ≤ length xs = omega (arith, le) in less) ∙ ap (λ n. range_with_len n count) (let same : suc first ≡ first + 1 = omega arith in same))

pub taken_devices : (count : ℕ) (space : Space) → count ≤ length space → map (λ (place : Place). place.dev) (node_places count space) ≡ range_with_len 0 count
taken_devices count space le = devices_from 0 count space le

-- A device's first free bucket isn't in a state that isn't free.
not_first : (space : Space) (dev at : ℕ) (buckets : List Bucket) (state : State) → slice_get space dev ≡ Some buckets → bucket_state space dev at ≡ Some state → is_free_state state ≡ false → at ≡ first_free buckets → ⊥
not_first space dev at buckets state device is taken first =
    let found = from_state space dev at state is in
    let there = sym (ap (λ (o : Option (List Bucket)). option_and_then (λ list. slice_get list at) o) device) ∙ found.1 in
    false≢true (sym taken ∙ ap is_free_state (sym found.2) ∙ first_is_free buckets at found.0 there first)

held_taken : (past : ℕ) (space : Space) (place : Place) → IsHeldPast past space place → (state : State) × (state_at space place ≡ Some state) × (is_free_state state ≡ false)
held_taken past space place = ⊎_elim (λ holds. (Node, holds, refl)) (λ waits. (Waiting waits.0, waits.1, refl))

pub taken_apart : (past count : ℕ) (space : Space) (other : Place) → IsHeldPast past space other → All (AreInOtherBuckets other) (node_places count space)
taken_apart past count space other held = each_taken (AreInOtherBuckets other) count space (λ dev buckets got lt.
    let found = held_taken past space other held in
    ⊎_elim (λ apart. apart)
    (λ same. absurd (not_first space dev (other.block / bucket_blocks) buckets found.0 got (ap (λ n. bucket_state space n (other.block / bucket_blocks)) (sym same.0) ∙ found.1) found.2 (same.1 ∙ whole_buckets (first_free buckets))))
    (apart_or_same other (node_place dev buckets)))

-- a device with as many buckets has as many blocks
device_blocks : (layout : Layout) (space : Space) (dev : ℕ) (buckets : List Bucket) → AreFixed layout space → slice_get space dev ≡ Some buckets → (dev < length layout.blocks) × (length buckets ≡ slice_index_or layout.blocks dev 0 / bucket_blocks)
device_blocks layout space dev buckets are got =
    let whole = λ (blocks : ℕ). blocks / bucket_blocks in
    let size : option_map whole (slice_get layout.blocks dev) ≡ Some (length buckets) =
    sym (slice_get-map whole layout.blocks dev) ∙ ap (λ list. slice_get list dev) (sym are.sizes) ∙ slice_get-map length space dev ∙ ap (option_map length) got in
    let found = given_by whole (slice_get layout.blocks dev) (length buckets) size in
    (slice_get_within layout.blocks dev found.0 found.1, sym found.2 ∙ ap whole (sym (get_or_from_slice_get layout.blocks dev found.0 0 found.1)))

first_past : (journal first : ℕ) → (first ≡ 0 → ⊥) → (0 < first → bucket_blocks * first < bucket_blocks + journal → ⊥) → bucket_blocks + journal ≤ bucket_blocks * first
first_past journal zero not_zero not_journal = absurd (not_zero refl)
first_past journal (suc n) not_zero not_journal = ⊎_elim (λ within. absurd (not_journal (omega arith) within)) (λ past. past) (cases_lt (bucket_blocks * suc n) (bucket_blocks + journal))

bucket_fits : (first buckets blocks : ℕ) → first < buckets → buckets ≡ blocks / bucket_blocks → bucket_blocks * first + bucket_blocks ≤ blocks
bucket_fits first buckets blocks lt is = omega (arith, lt, is)

past_first : (first : ℕ) → (first ≡ 0 → ⊥) → bucket_blocks ≤ bucket_blocks * first
past_first zero not_zero = absurd (not_zero refl)
past_first (suc n) not_zero = omega arith

begins_whole : (n : ℕ) → bucket_blocks * n % bucket_blocks ≡ 0
begins_whole n = omega arith

pub taken_past_journal : (layout : Layout) (count : ℕ) (space : Space) → AreFixed layout space → have_free count space ≡ true → count ≤ layout.metadata_replicas
    → All (λ place. (place.dev < layout.metadata_replicas) × MayHoldNode layout place) (node_places count space)
taken_past_journal layout count space are all few = each_taken (λ place. (place.dev < layout.metadata_replicas) × MayHoldNode layout place) count space (λ dev buckets got lt.
    let first = first_free buckets in
    let device = device_blocks layout space dev buckets are got in
    let not_zero = λ (zero_is : first ≡ 0). not_first space dev 0 buckets Super got (are.superblocks dev device.0) refl (sym zero_is) in (
      let on : dev < layout.metadata_replicas = omega (arith, lt, few) in on,
      record {
        begins = begins_whole first;
        within = bucket_fits first (length buckets) (slice_index_or layout.blocks dev 0) (one_free count dev space buckets all got lt) device.1;
        past_superblocks = past_first first not_zero;
        past_journal = λ on. first_past layout.journal first not_zero (λ past within. not_first space dev first buckets Journal got (are.journal dev first on past within) refl refl);
      },
    ))
