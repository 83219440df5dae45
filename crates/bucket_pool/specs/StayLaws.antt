-- Which buckets each call leaves as they are.
use Rattle.std.proofs.Common.{◌≡◌, ℕ, zero, suc, ◌+◌, ◌*◌, ◌/◌, ◌<◌, ◌⊎◌, ⊎_elim, inl, inr, Bool, true, false, nat_lt, nat_le, if◌then◌else◌, Option, None, Some, option_map, option_and_then, List, [], ◌∷◌, length, map, get_or, slice_get, slice_index, refl, sym, ap, ◌∙◌, subst, arith}
use Rattle.std.specs.List.{position_or_len}
use Rattle.std.proofs.lemmas.Bool.{false≢true}
use Rattle.std.proofs.lemmas.List.Sums.{passes_at_first}
use Rattle.std.proofs.lemmas.Option.{get_or_from_slice_get, none-some as none_some, option_and_then_some, same_Some, slice_get-map, slice_get_within}
use Rattle.vol_types.specs.declared.pointers.Place.{Place}
use Rattle.vol_types.specs.declared.pointers.Pointer.{Pointer}
use Rattle.vol_types.specs.Limits.{bucket_blocks}
use Rattle.bucket_pool.specs.declared.bucket.Bucket.{Bucket}
use Rattle.bucket_pool.specs.declared.bucket.Run.{Run}
use Rattle.bucket_pool.specs.declared.bucket.State.{State}
use Rattle.bucket_pool.specs.declared.bucket.State.TheVariants.{Super, Journal, Node, User, Free, Waiting, Opened, Retired}
use Rattle.bucket_pool.specs.Buckets.{in_state, is_current_of, is_free, is_free_state, is_named, kept_at, kept_state, let_go, let_go_state, marked_state, opened_for, released, settled, settled_state, waited, waited_by}
use Rattle.bucket_pool.specs.Given.{bucket_at, is_due, is_open_state, is_shut_state, is_used_state}
use Rattle.bucket_pool.specs.Places.{Picked, changed, each_from, picked_from, with_pick}
use Rattle.bucket_pool.specs.Space.{Space, as_node, can_give, emptied, first_free, has_open_room, kept, marked, noded, pointer_to, readied, reopened, reserved, reserved_at, reserved_on, run_of, settled_space, spot, with_node}

-- a device and a bucket of it
pub parts : {P : Type 0} (space : Space) (dev at : ℕ) (bucket : Bucket) → bucket_at space dev at ≡ Some bucket → ((buckets : List Bucket) → slice_get space dev ≡ Some buckets → slice_get buckets at ≡ Some bucket → P) → P
parts space dev at bucket is go = option_and_then_some (λ buckets. slice_get buckets at) (slice_get space dev) bucket is go

pub on_device : (space : Space) (dev at : ℕ) (buckets : List Bucket) (bucket : Bucket) → slice_get space dev ≡ Some buckets → slice_get buckets at ≡ Some bucket → bucket_at space dev at ≡ Some bucket
on_device space dev at buckets bucket device there = ap (λ (o : Option (List Bucket)). option_and_then (λ list. slice_get list at) o) device ∙ there

pub each_get : {X Y : Type 0} (f : ℕ → X → Y) (first place k : ℕ) (xs : List X) (x : X) → place ≡ first + k → slice_get xs k ≡ Some x → slice_get (each_from f first xs) k ≡ Some (f place x)
each_get f first place k [] x is got = absurd (none_some x got)
each_get f first place zero (y ∷ ys) x is got = ap Some (ap (λ (n : ℕ). f n y) (let same : first ≡ place = omega (arith, is) in same) ∙ ap (f place) (same_Some y x got))
each_get f first place (suc k) (y ∷ ys) x is got = each_get f (suc first) place k ys x (let same : place ≡ suc first + k = omega (arith, is) in same) got

-- a member stays where the change would leave it as it is
pub changed_stays : {X : Type 0} (f : X → X) (at k : ℕ) (xs : List X) (x : X) → slice_get xs k ≡ Some x → (k ≡ at → f x ≡ x) → slice_get (changed f at xs) k ≡ Some x
changed_stays f at k [] x got same = got
changed_stays f zero zero (y ∷ ys) x got same = ap Some (ap f (same_Some y x got) ∙ same refl)
changed_stays f zero (suc k) (y ∷ ys) x got same = got
changed_stays f (suc at) zero (y ∷ ys) x got same = got
changed_stays f (suc at) (suc k) (y ∷ ys) x got same = changed_stays f at k ys x got (λ e. same (ap suc e))

-- a member is changed or stays
pub changed_get : {X : Type 0} (f : X → X) (at k : ℕ) (xs : List X) (x : X) → slice_get xs k ≡ Some x → (slice_get (changed f at xs) k ≡ Some x) ⊎ (slice_get (changed f at xs) k ≡ Some (f x))
changed_get f at k [] x got = inl got
changed_get f zero zero (y ∷ ys) x got = inr (ap (λ z. Some (f z)) (same_Some y x got))
changed_get f zero (suc k) (y ∷ ys) x got = inl got
changed_get f (suc at) zero (y ∷ ys) x got = inl got
changed_get f (suc at) (suc k) (y ∷ ys) x got = changed_get f at k ys x got

-- states that a call leaves as they are
kept_same : (actor : ℕ) (named : ℕ → Bool) (state : State) → is_open_state state ≡ false → kept_state actor named state ≡ state
kept_same actor named Super is = refl
kept_same actor named Journal is = refl
kept_same actor named Node is = refl
kept_same actor named User is = refl
kept_same actor named Free is = refl
kept_same actor named (Waiting entry) is = refl
kept_same actor named (Opened bucket) is = absurd (false≢true (sym is))
kept_same actor named Retired is = refl

settled_by : (b : Bool) (generation entry : ℕ) → b ≡ false → (if b then released generation else Waiting entry) ≡ Waiting entry
settled_by true generation entry is = absurd (false≢true (sym is))
settled_by false generation entry is = refl

settled_same : (seq generation : ℕ) (state : State) → is_due seq state ≡ false → settled_state seq generation state ≡ state
settled_same seq generation Super is = refl
settled_same seq generation Journal is = refl
settled_same seq generation Node is = refl
settled_same seq generation User is = refl
settled_same seq generation Free is = refl
settled_same seq generation (Waiting entry) is = settled_by (nat_le entry seq) generation entry is
settled_same seq generation (Opened bucket) is = refl
settled_same seq generation Retired is = refl

waited_same : (seq : ℕ) (bucket : Bucket) (state : State) → is_used_state state ≡ false → waited_by seq bucket state ≡ bucket
waited_same seq bucket Super is = refl
waited_same seq bucket Journal is = refl
waited_same seq bucket Node is = absurd (false≢true (sym is))
waited_same seq bucket User is = absurd (false≢true (sym is))
waited_same seq bucket Free is = refl
waited_same seq bucket (Waiting entry) is = refl
waited_same seq bucket (Opened inside) is = absurd (false≢true (sym is))
waited_same seq bucket Retired is = refl

let_go_same : (state : State) → is_shut_state state ≡ true → let_go_state state ≡ state
let_go_same Super is = refl
let_go_same Journal is = refl
let_go_same Node is = refl
let_go_same User is = refl
let_go_same Free is = refl
let_go_same (Waiting entry) is = refl
let_go_same (Opened bucket) is = absurd (false≢true is)
let_go_same Retired is = refl

marked_same : (first count : ℕ) (state : State) → is_shut_state state ≡ true → marked_state first count state ≡ state
marked_same first count Super is = refl
marked_same first count Journal is = refl
marked_same first count Node is = refl
marked_same first count User is = refl
marked_same first count Free is = refl
marked_same first count (Waiting entry) is = refl
marked_same first count (Opened bucket) is = absurd (false≢true is)
marked_same first count Retired is = refl

shut_not_free : (state : State) → is_shut_state state ≡ true → is_free_state state ≡ false
shut_not_free Super is = refl
shut_not_free Journal is = refl
shut_not_free Node is = refl
shut_not_free User is = refl
shut_not_free Free is = absurd (false≢true is)
shut_not_free (Waiting entry) is = refl
shut_not_free (Opened bucket) is = refl
shut_not_free Retired is = refl

-- the first free bucket is free
pub first_is_free : (buckets : List Bucket) (at : ℕ) (bucket : Bucket) → slice_get buckets at ≡ Some bucket → at ≡ first_free buckets → is_free bucket ≡ true
first_is_free buckets at bucket there first =
    let within : first_free buckets < length buckets = subst (λ (n : ℕ). n < length buckets) first (slice_get_within buckets at bucket there) in
    ap is_free (sym (get_or_from_slice_get buckets at bucket bucket there) ∙ ap (λ n. get_or buckets n bucket) first) ∙ passes_at_first is_free buckets bucket within

pub kept_stays : (actor : ℕ) (runs : List Run) (space : Space) (dev at : ℕ) (bucket : Bucket) → bucket_at space dev at ≡ Some bucket → is_open_state bucket.state ≡ false → bucket_at (kept actor runs space) dev at ≡ Some bucket
kept_stays actor runs space dev at bucket is shut = parts space dev at bucket is (λ buckets device there.
    let same : kept_at actor runs dev at bucket ≡ bucket = ap (in_state bucket) (kept_same actor (λ slot. is_named runs dev (bucket_blocks * at + slot)) bucket.state shut) in
    on_device (kept actor runs space) dev at (each_from (kept_at actor runs dev) 0 buckets) bucket
    (each_get (λ n. each_from (kept_at actor runs n) 0) 0 dev dev space buckets (omega arith) device)
    (each_get (kept_at actor runs dev) 0 at at buckets bucket (omega arith) there ∙ ap Some same))

pub settled_stays : (seq : ℕ) (space : Space) (dev at : ℕ) (bucket : Bucket) → bucket_at space dev at ≡ Some bucket → is_due seq bucket.state ≡ false → bucket_at (settled_space seq space) dev at ≡ Some bucket
settled_stays seq space dev at bucket is due = parts space dev at bucket is (λ buckets device there.
    let same : settled seq bucket ≡ bucket = ap (in_state bucket) (settled_same seq bucket.generation bucket.state due) in
    on_device (settled_space seq space) dev at (map (settled seq) buckets) bucket
    (slice_get-map (map (settled seq)) space dev ∙ ap (option_map (map (settled seq))) device)
    (slice_get-map (settled seq) buckets at ∙ ap (option_map (settled seq)) there ∙ ap Some same))

pub emptied_stays : (place : Place) (seq : ℕ) (space : Space) (dev at : ℕ) (bucket : Bucket) → bucket_at space dev at ≡ Some bucket → is_used_state bucket.state ≡ false → bucket_at (emptied place seq space) dev at ≡ Some bucket
emptied_stays place seq space dev at bucket is unused = parts space dev at bucket is (λ buckets device there.
    let change = changed (waited seq) (place.block / bucket_blocks) in
    ⊎_elim (λ same. on_device (emptied place seq space) dev at buckets bucket same there)
    (λ other. on_device (emptied place seq space) dev at (change buckets) bucket other
    (changed_stays (waited seq) (place.block / bucket_blocks) at buckets bucket there (λ _. waited_same seq bucket bucket.state unused)))
    (changed_get change place.dev dev space buckets device))

node_choice : (b : Bool) (at : ℕ) (buckets : List Bucket) (bucket : Bucket) → slice_get buckets at ≡ Some bucket → is_free bucket ≡ false → slice_get (if b then with_node buckets else buckets) at ≡ Some bucket
node_choice true at buckets bucket there taken = changed_stays as_node (first_free buckets) at buckets bucket there (λ first. absurd (false≢true (sym taken ∙ first_is_free buckets at bucket there first)))
node_choice false at buckets bucket there taken = there

pub noded_stays : (count : ℕ) (space : Space) (dev at : ℕ) (bucket : Bucket) → bucket_at space dev at ≡ Some bucket → is_free bucket ≡ false → bucket_at (noded count space) dev at ≡ Some bucket
noded_stays count space dev at bucket is taken = parts space dev at bucket is (λ buckets device there.
    on_device (noded count space) dev at (if nat_lt dev count then with_node buckets else buckets) bucket
    (each_get (λ n list. if nat_lt n count then with_node list else list) 0 dev dev space buckets (omega arith) device)
    (node_choice (nat_lt dev count) at buckets bucket there taken))

-- a member that was asked gives something, or stays
picked_get : {G X : Type 0} (pick : ℕ → X → Option (G × X)) (first place count k : ℕ) (xs : List X) (x : X) → place ≡ first + k → slice_get xs k ≡ Some x
    → (slice_get (picked_from pick first count xs).left k ≡ Some x) ⊎ ((given : G) × (member : X) × (pick place x ≡ Some (given, member)) × (slice_get (picked_from pick first count xs).left k ≡ Some member))
picked_get pick first place count k [] x is got = absurd (none_some x got)
picked_get pick first place zero k (y ∷ ys) x is got = inl got
picked_get {G = G} {X = X} pick first place (suc count) zero (y ∷ ys) x is got = choose (pick first y) refl
  where
    none : Picked G X
    none = picked_from pick (suc first) (suc count) ys

    some : Picked G X
    some = picked_from pick (suc first) count ys

    choose : (o : Option (G × X)) → pick first y ≡ o → (slice_get (with_pick o y none some).left 0 ≡ Some x) ⊎ ((given : G) × (member : X) × (pick place x ≡ Some (given, member)) × (slice_get (with_pick o y none some).left 0 ≡ Some member))
    choose None asked = inl got
    choose (Some pair) asked = inr (pair.0, pair.1, ap (λ (n : ℕ). pick n x) (let same : place ≡ first = omega (arith, is) in same) ∙ ap (pick first) (sym (same_Some y x got)) ∙ asked, refl)
picked_get {G = G} {X = X} pick first place (suc count) (suc k) (y ∷ ys) x is got = choose (pick first y) (picked_get pick (suc first) place (suc count) k ys x next got) (picked_get pick (suc first) place count k ys x next got)
  where
    next : place ≡ suc first + k
    next = omega (arith, is)

    Here : List X → Type 0
    Here left = (slice_get left k ≡ Some x) ⊎ ((given : G) × (member : X) × (pick place x ≡ Some (given, member)) × (slice_get left k ≡ Some member))

    choose : (o : Option (G × X)) → Here (picked_from pick (suc first) (suc count) ys).left → Here (picked_from pick (suc first) count ys).left
        → (slice_get (with_pick o y (picked_from pick (suc first) (suc count) ys) (picked_from pick (suc first) count ys)).left (suc k) ≡ Some x)
        ⊎ ((given : G) × (member : X) × (pick place x ≡ Some (given, member)) × (slice_get (with_pick o y (picked_from pick (suc first) (suc count) ys) (picked_from pick (suc first) count ys)).left (suc k) ≡ Some member))
    choose None one other = one
    choose (Some pair) one other = other

-- what stands in a device's buckets once one is open for the actor
readied_stays : (count actor : ℕ) (buckets : List Bucket) (at : ℕ) (bucket : Bucket) → slice_get buckets at ≡ Some bucket → is_shut_state bucket.state ≡ true → slice_get (readied count actor buckets) at ≡ Some bucket
readied_stays count actor buckets at bucket there shut = choose (has_open_room count actor buckets)
  where
    choose : (b : Bool) → slice_get (if b then buckets else reopened actor buckets) at ≡ Some bucket
    choose true = there
    choose false = changed_stays (opened_for actor) (first_free buckets) at (changed let_go (position_or_len (is_current_of actor) buckets) buckets) bucket
        (changed_stays let_go (position_or_len (is_current_of actor) buckets) at buckets bucket there (λ _. ap (in_state bucket) (let_go_same bucket.state shut)))
        (λ first. absurd (false≢true (sym (shut_not_free bucket.state shut) ∙ first_is_free buckets at bucket there first)))

pub given_by : {A B : Type 0} (f : A → B) (o : Option A) (b : B) → option_map f o ≡ Some b → (a : A) × (o ≡ Some a) × (f a ≡ b)
given_by f None b is = absurd (none_some b is)
given_by f (Some a) b is = (a, refl, same_Some (f a) b is)

pub chosen : {A : Type 0} (b : Bool) (o : Option A) (a : A) → (if b then o else None) ≡ Some a → (b ≡ true) × (o ≡ Some a)
chosen true o a is = (refl, is)
chosen false o a is = absurd (none_some a is)

reserved_on_stays : (count actor : ℕ) (held : List ℕ) (dev : ℕ) (buckets : List Bucket) (pointer : Pointer) (after : List Bucket) (at : ℕ) (bucket : Bucket) → reserved_on count actor held dev buckets ≡ Some (pointer, after)
    → slice_get buckets at ≡ Some bucket → is_shut_state bucket.state ≡ true → slice_get after at ≡ Some bucket
reserved_on_stays count actor held dev buckets pointer after at bucket is there shut =
    let ready = readied count actor buckets in
    let place = spot count actor buckets in
    let both = chosen (can_give count actor (slice_index held dev) buckets) (reserved_at count dev place ready) (pointer, after) is in
    let made = given_by (λ b. (pointer_to count dev place b, changed (marked count) place ready)) (slice_get ready place) (pointer, after) both.1 in
    ap (λ (p : Pointer × List Bucket). slice_get p.1 at) (sym made.2)
    ∙ changed_stays (marked count) place at ready bucket (readied_stays count actor buckets at bucket there shut) (λ _. ap (in_state bucket) (marked_same (run_of count bucket) count bucket.state shut))

pub reserved_stays : (count actor replicas : ℕ) (held : List ℕ) (space : Space) (dev at : ℕ) (bucket : Bucket) → bucket_at space dev at ≡ Some bucket → is_shut_state bucket.state ≡ true → bucket_at (reserved count actor replicas held space).left dev at ≡ Some bucket
reserved_stays count actor replicas held space dev at bucket is shut = parts space dev at bucket is (λ buckets device there.
    ⊎_elim (λ same. on_device (reserved count actor replicas held space).left dev at buckets bucket same there)
    (λ given. on_device (reserved count actor replicas held space).left dev at given.1 bucket given.3 (reserved_on_stays count actor held dev buckets given.0 given.1 at bucket given.2 there shut))
    (picked_get (reserved_on count actor held) 0 dev replicas dev space buckets (omega arith) device))
