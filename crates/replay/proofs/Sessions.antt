-- While the next session is sealed an image means the same, and afterwards in that session.
use Rattle.std.proofs.Common.{◌≡◌, ℕ, zero, suc, ◌+◌, ◌<◌, ◌≤◌, ◌⊎◌, inl, inr, ⊎_elim, max, List, [], length, map, get_or, Option, Some, None, Ok, refl, ap, ◌∙◌, sym, subst, arith, All}
use Rattle.std.proofs.lemmas.Bool.{cases_eq, cases_lt, false≢true}
use Rattle.std.proofs.lemmas.List.{get_or-map, length-map}
use Rattle.std.proofs.lemmas.Option.{none-some, same_Some}
use Rattle.std.specs.Option.{IsSome}
use Rattle.std.specs.Prelude.{option_and_then}
use Rattle.dev_model.specs.CrashLaws.{as_read_may_be_left}
use Rattle.dev_model.specs.Crashes.{EachCrash, EachCrashNow, IsCrashImageBut, IsQuiet, SameBut}
use Rattle.dev_model.specs.Devices.{DevicesState, now}
use Rattle.dev_model.specs.Disk.{Disk, Image, IsCrashImage, IsDisk, as_read, block_at, blocks_of}
use Rattle.geometry.specs.LayoutFacts.{HasPlaces, has_places}
use Rattle.geometry.specs.Mirrors.{HoldMirrors}
use Rattle.geometry.specs.SessionLaws.{four_or_five, greatest_is_named, session_remains, some_greatest}
use Rattle.geometry.specs.Sessions.{IsSessionPlace, greater, greatest_session, session_at, session_block, session_in, session_named, session_place}
use Rattle.geometry.specs.SuperLaws.{layout_fits}
use Rattle.image_view.specs.BaseLaws.{found-layout, found-session}
use Rattle.image_view.specs.Bases.{DifferInSessions}
use Rattle.image_view.specs.Found.{Found, IsInOrder, IsUnsound, MountsAs, Volume, found, node_places, with_session}
use Rattle.key_codec.specs.Combined.{ok_is}
use Rattle.key_meaning.specs.Checks.{AreNodesPlaced}
use Rattle.vol_types.specs.declared.layout.Layout.{Layout}
use Rattle.replay.proofs.Images.{as_many_left, as_many_read, same_image, same_sizes}
use Rattle.replay.specs.Beginning.{IsFoundOn, MeansTheSame}

-- ---- the greatest session

greater_left : (one other : Option ℕ) (most s : ℕ) → greater one other ≡ Some most → one ≡ Some s → s ≤ most
greater_left None other most s is there = absurd (none-some s there)
greater_left (Some a) None most s is there = let e : a ≡ most = same_Some a most is in let f : a ≡ s = same_Some a s there in omega (arith, e, f)
greater_left (Some a) (Some b) most s is there = let e : max a b ≡ most = same_Some (max a b) most is in let f : a ≡ s = same_Some a s there in omega (arith, e, f)

greater_right : (one other : Option ℕ) (most s : ℕ) → greater one other ≡ Some most → other ≡ Some s → s ≤ most
greater_right None other most s is there = let e : most ≡ s = same_Some most s (sym is ∙ there) in omega (arith, e)
greater_right (Some a) None most s is there = absurd (none-some s there)
greater_right (Some a) (Some b) most s is there = let e : max a b ≡ most = same_Some (max a b) most is in let f : b ≡ s = same_Some b s there in omega (arith, e, f)

there : (o : Option ℕ) → IsSome o → (s : ℕ) × (o ≡ Some s)
there None is = absurd (false≢true is)
there (Some s) is = (s, refl)

-- Where one of two is there, so is the greater.
some_of : (one other : Option ℕ) (s : ℕ) → (one ≡ Some s) ⊎ (other ≡ Some s) → (most : ℕ) × (greater one other ≡ Some most)
some_of None None s (inl is) = absurd (none-some s is)
some_of None None s (inr is) = absurd (none-some s is)
some_of None (Some b) s named = (b, refl)
some_of (Some a) None s named = (a, refl)
some_of (Some a) (Some b) s named = (max a b, refl)

-- No device names a greater session than the greatest one.
pub greatest_least : (id : List ℕ) (image : Image) (count most dev s : ℕ) → greatest_session id image count ≡ Some most → dev < count → session_at id image dev (session_place s) ≡ Some s → s ≤ most
greatest_least id image zero most dev s is within named = absurd (omega (arith, within))
greatest_least id image (suc count) most dev s is within named =
    let before = greatest_session id image count in
    let even = session_at id image count 4 in
    let odd = session_at id image count 5 in
    ⊎_elim
    (λ (last : dev ≡ count).
    let here : session_at id image count (session_place s) ≡ Some s = subst (λ d. session_at id image d (session_place s) ≡ Some s) last named in
    let either : (even ≡ Some s) ⊎ (odd ≡ Some s) = ⊎_elim
    (λ four. inl (subst (λ b. session_at id image count b ≡ Some s) four here))
    (λ five. inr (subst (λ b. session_at id image count b ≡ Some s) five here)) (four_or_five s) in
    let both = some_of even odd s either in
    let least : s ≤ both.0 = ⊎_elim (λ is_even. greater_left even odd both.0 s both.1 is_even) (λ is_odd. greater_right even odd both.0 s both.1 is_odd) either in
    let most_of : both.0 ≤ most = greater_right before (greater even odd) most both.0 is both.1 in
    omega (arith, least, most_of))
    (λ (earlier : ¬ (dev ≡ count)).
    let low : dev < count = omega (arith, within, earlier) in
    let before_is = there before (some_greatest id image count s (record { dev = dev; within = low; named = named })) in
    let least = greatest_least id image count before_is.0 dev s before_is.1 low named in
    let most_of : before_is.0 ≤ most = greater_left before (greater even odd) most before_is.0 is before_is.1 in
    omega (arith, least, most_of))
    (cases_eq dev count)

-- ---- sizes

-- Each device of a volume that is found is longer than the journal area of a metadata device.
pub long_devices : (image : Image) (f : Found) → found image ≡ Ok f → (dev : ℕ) → dev < length image → 16 + f.layout.journal < length (blocks_of image dev)
long_devices image f is dev within =
    let sizes : List ℕ = map (λ blocks. length blocks) image in
    let has : HasPlaces sizes f.layout = has_places sizes f.layout (layout_fits image f.layout (found-layout image f is)) in
    let there : dev < length sizes = omega (arith, within, length-map {B = ℕ} image (λ (blocks : List (List ℕ)). length blocks)) in
    let size : get_or sizes dev 0 ≡ length (blocks_of image dev) = get_or-map (λ (blocks : List (List ℕ)). length blocks) image dev [] 0 within in
    omega (arith, has.room dev there, has.longer dev there, size, has.least)

-- ---- another session

pub record ImageLaws : Type 0 where
  pub again : (one other : Image) (f : Found) (session : ℕ) → found one ≡ Ok f → AreNodesPlaced (node_places f) f.layout → DifferInSessions one other → session_in f.layout other ≡ Some session → found other ≡ Ok (with_session session f)
  pub mounts : (one other : Image) (volume : Volume) (session : ℕ) → MountsAs one volume → DifferInSessions one other → session_in volume.layout other ≡ Some session → MountsAs other volume
  pub unsound : (one other : Image) (f : Found) (session check : ℕ) → found one ≡ Ok f → AreNodesPlaced (node_places f) f.layout → DifferInSessions one other → session_in f.layout other ≡ Some session → IsUnsound one check → IsUnsound other check
  pub orderly : (one other : Image) (f : Found) (session : ℕ) → found one ≡ Ok f → AreNodesPlaced (node_places f) f.layout → DifferInSessions one other → session_in f.layout other ≡ Some session → f.session ≤ session → IsInOrder f one → IsInOrder (with_session session f) other

module _ (laws : ImageLaws) (one other : Image) (f : Found) (is : found one ≡ Ok f) (placed : AreNodesPlaced (node_places f) f.layout) (as_many : length other ≡ length one) (same : SameBut (IsSessionPlace f.layout (f.session + 1)) one other) where
  differs : DifferInSessions one other
  differs = record {
    lengths = sym (same_sizes other one 16 as_many (λ dev within. let long = long_devices one f is dev within in omega (arith, long))
        (λ dev block far. sym (same dev block (λ at. ⊎_elim (λ (four : session_place (f.session + 1) ≡ 4). omega (arith, at.1, four, far)) (λ (five : session_place (f.session + 1) ≡ 5). omega (arith, at.1, five, far)) (four_or_five (f.session + 1))))));
    elsewhere = λ dev block not_four not_five. same dev block (λ at. ⊎_elim (λ (four : session_place (f.session + 1) ≡ 4). not_four (at.1 ∙ four)) (λ (five : session_place (f.session + 1) ≡ 5). not_five (at.1 ∙ five)) (four_or_five (f.session + 1)));
  }

  -- The block of the session that was found stays.
  stays : (dev : ℕ) → block_at other dev (session_place f.session) ≡ block_at one dev (session_place f.session)
  stays dev = sym (same dev (session_place f.session) (λ at. let e = at.1 in omega (arith, e)))

  named : (session : ℕ) × (session_in f.layout other ≡ Some session)
  named = there (session_in f.layout other) (session_remains f.layout one other f.session (found-session one f is) (λ dev within. stays dev))

  no_less : f.session ≤ named.0
  no_less =
      let by = greatest_is_named f.layout.id one f.layout.metadata_replicas f.session (found-session one f is) in
      greatest_least f.layout.id other f.layout.metadata_replicas named.0 by.dev f.session named.1 by.within
      (ap (option_and_then (session_named f.layout.id (session_place f.session))) (stays by.dev) ∙ by.named)

  -- The image means the same.
  pub means_the_same : MeansTheSame f one other
  means_the_same = record {
    session = named.0;
    later = no_less;
    finds = laws.again one other f named.0 is placed differs named.1;
    in_order = laws.orderly one other f named.0 is placed differs named.1 no_less;
    mounts = λ volume mounts. laws.mounts one other volume named.0 mounts differs (subst (λ (v : Volume). session_in v.layout other ≡ Some named.0) (sym mounts.volume_is) (subst (λ (g : Found). session_in g.layout other ≡ Some named.0) (ok_is f mounts.f (sym is ∙ mounts.finds)) named.1));
    unsound = λ check unsound. laws.unsound one other f named.0 check is placed differs named.1 unsound;
  }

  -- Once it is sealed on each metadata device, the next session is the greatest.
  next_named : ((dev : ℕ) → dev < f.layout.metadata_replicas → session_at f.layout.id other dev (session_place (f.session + 1)) ≡ Some (f.session + 1)) → named.0 ≡ f.session + 1
  next_named sealed =
      let mirrored : 0 < f.layout.metadata_replicas = let some = (has_places (map (λ blocks. length blocks) one) f.layout (layout_fits one f.layout (found-layout one f is))).mirrored in omega (arith, some) in
      let least : f.session + 1 ≤ named.0 = greatest_least f.layout.id other f.layout.metadata_replicas named.0 0 (f.session + 1) named.1 mirrored (sealed 0 mirrored) in
      let by = greatest_is_named f.layout.id other f.layout.metadata_replicas named.0 named.1 in
      ⊎_elim
      (λ (here : session_place named.0 ≡ session_place (f.session + 1)).
      same_Some named.0 (f.session + 1) (sym (subst (λ b. session_at f.layout.id other by.dev b ≡ Some named.0) here by.named) ∙ sealed by.dev by.within))
      (λ (elsewhere : ¬ (session_place named.0 ≡ session_place (f.session + 1))).
      let before : session_at f.layout.id one by.dev (session_place named.0) ≡ Some named.0 =
      ap (option_and_then (session_named f.layout.id (session_place named.0))) (same by.dev (session_place named.0) (λ at. elsewhere at.1)) ∙ by.named in
      let most = greatest_least f.layout.id one f.layout.metadata_replicas f.session by.dev named.0 (found-session one f is) by.within before in
      absurd (omega (arith, least, most)))
      (cases_eq (session_place named.0) (session_place (f.session + 1)))

  pub found_next : ((dev : ℕ) → dev < f.layout.metadata_replicas → session_at f.layout.id other dev (session_place (f.session + 1)) ≡ Some (f.session + 1)) → found other ≡ Ok (with_session (f.session + 1) f)
  found_next sealed = laws.again one other f (f.session + 1) is placed differs (named.1 ∙ ap Some (next_named sealed))

-- ---- the devices

module _ (layout : Layout) (session : ℕ) (old new : DevicesState) (crashes : EachCrash (λ _ _ image. IsCrashImageBut (IsSessionPlace layout session) (now old) image) old new) (quiet : IsQuiet (now old)) where
  -- A crash leaves what was read but at the session's places.
  pub left_but_session : (m : ℕ) → old.moment ≤ m → m ≤ new.moment → (image : Image) → IsCrashImage (new.disks m) image → SameBut (IsSessionPlace layout session) (as_read (now old)) image
  left_but_session m lo hi image may d b away =
      let left = crashes.each m lo hi image may in
      sym (ap (λ (i : Image). block_at i d b) (quiet left.0 left.1)) ∙ left.2 d b away

  -- Where each metadata device holds the session's block, the devices are quiet again.
  pub quiet_again : (bytes : List ℕ) → All IsDisk (now new) → EachCrashNow (HoldMirrors layout.metadata_replicas (session_place session) bytes) new → IsQuiet (now new)
  quiet_again bytes are held image may =
      let read = as_read_may_be_left (now new) are in
      same_image image (as_read (now new)) (as_many_left (now new) image may ∙ sym (as_many_read (now new))) (λ d b. ⊎_elim
      (λ (mirror : d < layout.metadata_replicas). ⊎_elim
      (λ (here : b ≡ session_place session). subst (λ n. block_at image d n ≡ block_at (as_read (now new)) d n) (sym here) (held image may d mirror ∙ sym (held (as_read (now new)) read d mirror)))
      (λ (elsewhere : ¬ (b ≡ session_place session)). both_read d b image may read (λ at. elsewhere at.1))
      (cases_eq b (session_place session)))
      (λ (other : layout.metadata_replicas ≤ d). both_read d b image may read (λ at. let mirror = at.0 in omega (arith, mirror, other)))
      (cases_lt d layout.metadata_replicas))
    where
      both_read : (d b : ℕ) (image : Image) → IsCrashImage (now new) image → IsCrashImage (now new) (as_read (now new)) → ¬ IsSessionPlace layout session d b → block_at image d b ≡ block_at (as_read (now new)) d b
      both_read d b image may read away =
          sym (left_but_session new.moment crashes.later (omega arith) image may d b away) ∙ left_but_session new.moment crashes.later (omega arith) (as_read (now new)) read d b away

-- ---- the beginning of a session

module _ (laws : ImageLaws) (old new : DevicesState) (f : Found) (on : IsFoundOn f (now old)) (crashes : EachCrash (λ _ _ image. IsCrashImageBut (IsSessionPlace f.layout (f.session + 1)) (now old) image) old new)
    (steady : (m : ℕ) → m ≤ new.moment → length (new.disks m) ≡ length new.sizes) where
  as_many : (m : ℕ) → m ≤ new.moment → (image : Image) → IsCrashImage (new.disks m) image → length image ≡ length (as_read (now old))
  as_many m hi image may =
      as_many_left (new.disks m) image may ∙ steady m hi ∙ sym (steady old.moment crashes.later) ∙ ap (λ (ds : List Disk). length ds) (crashes.past old.moment (omega arith)) ∙ sym (as_many_read (now old))

  -- Whatever a crash leaves meanwhile means the same.
  pub each_means : EachCrash (λ _ _ image. MeansTheSame f (as_read (now old)) image) old new
  each_means = record {
    later = crashes.later;
    past = crashes.past;
    each = λ m lo hi image may. means_the_same laws (as_read (now old)) image f on.finds on.placed (as_many m hi image may) (left_but_session f.layout (f.session + 1) old new crashes on.quiet m lo hi image may);
  }

  -- Then the session has begun.
  pub has_begun : All IsDisk (now new) → EachCrashNow (HoldMirrors f.layout.metadata_replicas (session_place (f.session + 1)) (session_block f.layout.id (f.session + 1))) new
      → session_named f.layout.id (session_place (f.session + 1)) (session_block f.layout.id (f.session + 1)) ≡ Some (f.session + 1) → IsFoundOn (with_session (f.session + 1) f) (now new)
  has_begun are held names =
      let read = as_read_may_be_left (now new) are in
      record {
        quiet = quiet_again f.layout (f.session + 1) old new crashes on.quiet (session_block f.layout.id (f.session + 1)) are held;
        finds = found_next laws (as_read (now old)) (as_read (now new)) f on.finds on.placed (as_many new.moment (omega arith) (as_read (now new)) read)
            (left_but_session f.layout (f.session + 1) old new crashes on.quiet new.moment crashes.later (omega arith) (as_read (now new)) read)
            (λ dev within. ap (option_and_then (session_named f.layout.id (session_place (f.session + 1)))) (held (as_read (now new)) read dev within) ∙ names);
        placed = on.placed;
      }
