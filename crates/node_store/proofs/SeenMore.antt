-- One block more of a bucket is seen, or one copy more.
use Rattle.std.proofs.Common.{◌≡◌, ◌⊎◌, ⊎_elim, ℕ, zero, suc, ◌+◌, ◌<◌, ◌≤◌, refl, Bool, true, false, cond, ◌&&◌, ◌==◌, List, [], ◌∷◌, ◌++◌, length, take, get_or, Option, Some, None, ap, sym, ◌∙◌, subst, arith}
use Rattle.std.specs.Prelude.{IfSome, IsSome, MatchOption, is_none, is_some, option_map, slice_get, slice_index_or}
use Rattle.std.proofs.lemmas.Option.{slice_get_read}
use Rattle.std.proofs.lemmas.List.{length-take, map-append, take_all, take_more}
use Rattle.std.proofs.lemmas.Bool.{eqb-true, false≢true}
use Rattle.vol_types.specs.declared.pointers.Place.{Place}
use Rattle.dev_model.specs.Devices.{FaultCounts}
use Rattle.dev_model.specs.Frames.{AreNoFewer}
use Rattle.vol_types.specs.Faults.{RoseBy}
use Rattle.geometry.specs.Faults.{DeviceFailed}
use Rattle.node_store.specs.declared.opening.OpenBlock.{OpenBlock}
use Rattle.node_store.specs.declared.reading.Unread.{Unread}
use Rattle.node_store.specs.Answers.{AreSeenFrom, IsSeenFrom, LackNoMore}
use Rattle.node_store.specs.FailedReads.{IsFarthest, IsUnreadAt, IsUnreadIn, farthest, lacking, lacking_on, read_from}
use Rattle.node_store.specs.Copies.{Reading, block_in, copies_at, copy_at, shown_at, shown_below}
use Rattle.node_store.specs.StoredSets.{Copies}
use Rattle.node_store.proofs.NoBlocks.{length-shown_below}
use Rattle.node_store.proofs.Seen.{all_more, copies_later, copies_more, seen_more}

-- A block was seen as it is, or its read failed.
abbrev pub Shows : Option OpenBlock → Option OpenBlock → Option ℕ → Type 0
Shows shown there failed = (shown ≡ there) ⊎ ((shown ≡ None) × IsSome failed)

module _ (read : Reading) (place : Place) (n : ℕ) (before : Option Unread) (failed : Option ℕ) (seen new_seen : List (Option OpenBlock)) (shown : Option OpenBlock)
    (pushed : new_seen ≡ seen ++ shown ∷ []) (shows : Shows shown (shown_at read place n) failed) where
  pub see_more : length seen ≡ n → IsSeenFrom (read_from before) (shown_below read place n) seen → IsSeenFrom (read_from (farthest n failed before)) (shown_below read place (n + 1)) new_seen
  see_more size so_far =
      let count = length-shown_below read place n in
      subst (λ (s : List (Option OpenBlock)). IsSeenFrom (read_from (farthest n failed before)) (shown_below read place (n + 1)) s) (sym pushed)
      (subst (λ k. IsSeenFrom (read_from (farthest n failed before)) (shown_below read place k) (seen ++ shown ∷ [])) (let e : suc n ≡ n + 1 = omega arith in e)
      (subst (λ k. IsSeenFrom (read_from (farthest k failed before)) (shown_below read place n ++ shown_at read place n ∷ []) (seen ++ shown ∷ [])) count
      (seen_more before failed (shown_below read place n) seen shown (shown_at read place n) (size ∙ sym count) shows so_far)))

  pub see_all_more : (before ≡ None → seen ≡ shown_below read place n) → farthest n failed before ≡ None → new_seen ≡ shown_below read place (n + 1)
  see_all_more so_far none =
      pushed ∙ all_more before failed n (shown_below read place n) seen shown (shown_at read place n) shows so_far none
      ∙ ap (shown_below read place) (let e : suc n ≡ n + 1 = omega arith in e)

one_more : (xs ys : List (Option OpenBlock)) (x y : Option OpenBlock) → length ys ≡ length xs → lacking (xs ++ x ∷ []) (ys ++ y ∷ []) ≡ lacking xs ys + cond (is_some x && is_none y) 1 0
one_more [] [] x y same = refl
one_more [] (b ∷ ys) x y same = absurd (omega (arith, same))
one_more (a ∷ xs) [] x y same = absurd (omega (arith, same))
one_more (a ∷ xs) (b ∷ ys) x y same =
    let e = one_more xs ys x y (let l : length ys ≡ length xs = omega (arith, same) in l) in
    let here = cond {A = ℕ} (is_some a && is_none b) 1 0 in
    ap (λ k. k + here) e ∙ (let m : lacking xs ys + cond {A = ℕ} (is_some x && is_none y) 1 0 + here ≡ lacking xs ys + here + cond {A = ℕ} (is_some x && is_none y) 1 0 = omega arith in m)

none_lacks : (x : Option OpenBlock) → cond {A = ℕ} (is_some x && is_none x) 1 0 ≡ 0
none_lacks None = refl
none_lacks (Some x) = refl

one_lacks : (b : Bool) → cond {A = ℕ} b 1 0 ≤ 1
one_lacks true = omega arith
one_lacks false = omega arith

-- No more blocks of a copy lack than reads of its device failed, also after one block more.
pub few_more : (read : Reading) (place : Place) (n : ℕ) (failed : Option ℕ) (seen new_seen : List (Option OpenBlock)) (shown : Option OpenBlock) → new_seen ≡ seen ++ shown ∷ [] → length seen ≡ n
    → Shows shown (shown_at read place n) failed → (first second last : FaultCounts) → AreNoFewer second.calls last.calls → MatchOption failed (last ≡ second) (λ dev. (dev ≡ place.dev) × DeviceFailed dev second last)
    → RoseBy (lacking (shown_below read place n) seen) (slice_index_or first.calls place.dev 0) (slice_index_or second.calls place.dev 0)
    → RoseBy (lacking (shown_below read place (n + 1)) new_seen) (slice_index_or first.calls place.dev 0) (slice_index_or last.calls place.dev 0)
few_more read place n failed seen new_seen shown pushed count shows first second last other cause so_far =
    subst (λ k. RoseBy k (slice_index_or first.calls place.dev 0) (slice_index_or last.calls place.dev 0)) (sym total) (by failed shows cause)
  where
    there : Option OpenBlock
    there = shown_at read place n

    lacks : ℕ
    lacks = cond {A = ℕ} (is_some there && is_none shown) 1 0

    total : lacking (shown_below read place (n + 1)) new_seen ≡ lacking (shown_below read place n) seen + lacks
    total =
        ap (λ k. lacking (shown_below read place k) new_seen) (let e : n + 1 ≡ suc n = omega arith in e)
        ∙ ap (lacking (shown_below read place n ++ there ∷ [])) pushed
        ∙ one_more (shown_below read place n) seen there shown (count ∙ sym (length-shown_below read place n))

    by : (f : Option ℕ) → Shows shown there f → MatchOption f (last ≡ second) (λ dev. (dev ≡ place.dev) × DeviceFailed dev second last)
        → RoseBy (lacking (shown_below read place n) seen + lacks) (slice_index_or first.calls place.dev 0) (slice_index_or last.calls place.dev 0)
    by None shows cause =
        let as_it_is : shown ≡ there = ⊎_elim (λ (e : shown ≡ there). e) (λ (no : (shown ≡ None) × IsSome {T = ℕ} None). absurd (false≢true no.1)) shows in
        let no : lacks ≡ 0 = ap (λ (o : Option OpenBlock). cond {A = ℕ} (is_some there && is_none o) 1 0) as_it_is ∙ none_lacks there in
        let later = other place.dev in
        omega (arith, so_far, no, later)
    by (Some dev) shows cause =
        let here : DeviceFailed place.dev second last = subst (λ d. DeviceFailed d second last) cause.0 cause.1 in
        let one = one_lacks (is_some there && is_none shown) in
        omega (arith, so_far, here, one)

-- A whole bucket was seen.
pub see_whole : (read : Reading) (place : Place) (n from : ℕ) (seen : List (Option OpenBlock)) → n ≡ 16 → IsSeenFrom from (shown_below read place n) seen → IsSeenFrom from (copy_at read place) seen
unfolding copy_at
see_whole read place n from seen all is = subst (λ k. IsSeenFrom from (shown_below read place k) seen) all is

pub see_all : (read : Reading) (place : Place) (n : ℕ) (seen : List (Option OpenBlock)) → n ≡ 16 → seen ≡ shown_below read place n → seen ≡ copy_at read place
unfolding copy_at
see_all read place n seen all is = is ∙ ap (shown_below read place) all

pub few_whole : (read : Reading) (place : Place) (n : ℕ) (seen : List (Option OpenBlock)) (old new : ℕ) → n ≡ 16 → RoseBy (lacking (shown_below read place n) seen) old new → RoseBy (lacking (copy_at read place) seen) old new
unfolding copy_at
few_whole read place n seen old new all is = subst (λ k. RoseBy (lacking (shown_below read place k) seen) old new) all is

-- The copies at one place more.
pub copies_taken : (read : Reading) (places : List Place) (i : ℕ) (place : Place) → i < length places → get_or places i place ≡ place
    → copies_at read (take (i + 1) places) ≡ copies_at read (take i places) ++ copy_at read place ∷ []
copies_taken read places i place lt at =
    ap (copies_at read) (take_more places i place lt)
    ∙ map-append (copy_at read) (take i places) (get_or places i place ∷ [])
    ∙ ap (λ (p : Place). copies_at read (take i places) ++ copy_at read p ∷ []) at

pub see_copies_more : (from to : ℕ) (copies seen all new_seen : Copies) (copy shown : List (Option OpenBlock)) → from ≤ to → AreSeenFrom from copies seen → IsSeenFrom to copy shown
    → all ≡ copies ++ copy ∷ [] → new_seen ≡ seen ++ shown ∷ [] → AreSeenFrom to all new_seen
see_copies_more from to copies seen all new_seen copy shown le are is whole pushed =
    subst (λ (cs : Copies). AreSeenFrom to cs new_seen) (sym whole)
    (subst (λ (ss : Copies). AreSeenFrom to (copies ++ copy ∷ []) ss) (sym pushed) (copies_more to copies seen copy shown (copies_later from to copies seen le are) is))

-- Where no block couldn't be read, none couldn't before.
pub none_before : (before after : Option Unread) → read_from before ≤ read_from after → after ≡ None → before ≡ None
none_before None after le none = refl
none_before (Some unread) after le none = absurd (omega (arith, le, ap read_from none))

kept_at : {A B : Type 0} (f : A → B) (xs more : List A) (i : ℕ) (y : B) → option_map f (slice_get xs i) ≡ Some y → option_map f (slice_get (xs ++ more) i) ≡ Some y
kept_at f [] more i y is = cc
kept_at f (x ∷ xs) more zero y is = is
kept_at f (x ∷ xs) more (suc i) y is = kept_at f xs more i y is

last_at : {A : Type 0} (xs : List A) (x : A) → slice_get (xs ++ x ∷ []) (length xs) ≡ Some x
last_at [] x = refl
last_at (y ∷ xs) x = last_at xs x

lacking_more : (dev : ℕ) (read : Reading) (places : List Place) (place : Place) (seen : Copies) (copy : List (Option OpenBlock)) → length seen ≡ length places
    → lacking_on dev (places ++ place ∷ []) (copies_at read (places ++ place ∷ [])) (seen ++ copy ∷ []) ≡ lacking_on dev places (copies_at read places) seen + cond (place.dev == dev) (lacking (copy_at read place) copy) 0
lacking_more dev read [] place [] copy same = refl
lacking_more dev read [] place (s ∷ seen) copy same = absurd (omega (arith, same))
lacking_more dev read (p ∷ places) place [] copy same = absurd (omega (arith, same))
lacking_more dev read (p ∷ places) place (s ∷ seen) copy same =
    let e = lacking_more dev read places place seen copy (let l : length seen ≡ length places = omega (arith, same) in l) in
    let here = cond {A = ℕ} (p.dev == dev) (lacking (copy_at read p) s) 0 in
    let last = cond {A = ℕ} (place.dev == dev) (lacking (copy_at read place) copy) 0 in
    let before = lacking_on dev places (copies_at read places) seen in
    ap (λ k. k + here) e ∙ (let m : before + last + here ≡ before + here + last = omega arith in m)

-- The same of the copies at so many places.
pub few_below_more : (read : Reading) (places : List Place) (i : ℕ) (place : Place) (seen new_seen : Copies) (copy : List (Option OpenBlock)) (first second last : FaultCounts) → i < length places → get_or places i place ≡ place
    → length seen ≡ i → new_seen ≡ seen ++ copy ∷ [] → AreNoFewer second.calls last.calls
    → RoseBy (lacking (copy_at read place) copy) (slice_index_or second.calls place.dev 0) (slice_index_or last.calls place.dev 0)
    → LackNoMore first second (take i places) (copies_at read (take i places)) seen → LackNoMore first last (take (i + 1) places) (copies_at read (take (i + 1) places)) new_seen
few_below_more read places i place seen new_seen copy first second last lt at count pushed other here so_far dev =
    subst (λ k. RoseBy k (slice_index_or first.calls dev 0) (slice_index_or last.calls dev 0)) (sym total) (by (place.dev == dev) refl)
  where
    before : ℕ
    before = lacking_on dev (take i places) (copies_at read (take i places)) seen

    taken : take (i + 1) places ≡ take i places ++ place ∷ []
    taken = take_more places i place lt ∙ ap (λ (p : Place). take i places ++ p ∷ []) at

    total : lacking_on dev (take (i + 1) places) (copies_at read (take (i + 1) places)) new_seen ≡ before + cond (place.dev == dev) (lacking (copy_at read place) copy) 0
    total =
        ap (λ (ps : List Place). lacking_on dev ps (copies_at read ps) new_seen) taken
        ∙ ap (lacking_on dev (take i places ++ place ∷ []) (copies_at read (take i places ++ place ∷ []))) pushed
        ∙ lacking_more dev read (take i places) place seen copy (let l : length seen ≡ length (take i places) = omega (arith, count, length-take i places, lt) in l)

    by : (b : Bool) → (place.dev == dev) ≡ b → RoseBy (before + cond b (lacking (copy_at read place) copy) 0) (slice_index_or first.calls dev 0) (slice_index_or last.calls dev 0)
    by true is =
        let there : RoseBy (lacking (copy_at read place) copy) (slice_index_or second.calls dev 0) (slice_index_or last.calls dev 0) =
        subst (λ d. RoseBy (lacking (copy_at read place) copy) (slice_index_or second.calls d 0) (slice_index_or last.calls d 0)) (eqb-true place.dev dev is) here in
        let was = so_far dev in
        omega (arith, was, there)
    by false is =
        let later = other dev in
        let was = so_far dev in
        omega (arith, was, later)

pub few_all : (read : Reading) (places : List Place) (i : ℕ) (seen : Copies) (old new : FaultCounts) → length places ≤ i → LackNoMore old new (take i places) (copies_at read (take i places)) seen → LackNoMore old new places (copies_at read places) seen
few_all read places i seen old new all is = subst (λ (ps : List Place). LackNoMore old new ps (copies_at read ps) seen) (take_all i places all) is

-- The farthest block that couldn't be read, after the copy at one place more.
pub unread_more : (places : List Place) (i : ℕ) (place : Place) (before after : Option Unread) (copies new_copies : Copies) (copy : List (Option OpenBlock)) → i < length places → get_or places i place ≡ place
    → length copies ≡ i → new_copies ≡ copies ++ copy ∷ [] → length copy ≡ 16 → IsFarthest before after copy place.dev → IfSome before (IsUnreadAt places copies) → IfSome after (IsUnreadAt places new_copies)
unread_more places i place before after copies new_copies copy lt at count pushed whole far so_far =
    subst (λ (cs : Copies). IfSome after (IsUnreadAt places cs)) (sym pushed) (⊎_elim
    (λ (was : after ≡ before). subst (λ (o : Option Unread). IfSome o (IsUnreadAt places (copies ++ copy ∷ []))) (sym was) (stays before so_far))
    (λ (here : (unread : Unread) × (after ≡ Some unread) × IsUnreadIn copy place.dev unread).
    subst (λ (o : Option Unread). IfSome o (IsUnreadAt places (copies ++ copy ∷ []))) (sym here.1) (this here.0 here.2))
    far)
  where
    stays : (o : Option Unread) → IfSome o (IsUnreadAt places copies) → IfSome o (IsUnreadAt places (copies ++ copy ∷ []))
    stays None is = tt
    stays (Some unread) is = record {
      place = is.place;
      within = is.within;
      device = is.device;
      unseen = kept_at (λ (c : List (Option OpenBlock)). block_in c unread.block) copies (copy ∷ []) is.place None is.unseen;
    }

    this : (unread : Unread) → IsUnreadIn copy place.dev unread → IsUnreadAt places (copies ++ copy ∷ []) unread
    this unread is = record {
      place = i;
      within = omega (arith, is.within, whole);
      device = ap (option_map (λ (p : Place). p.dev)) (slice_get_read places (length places) i place refl lt (sym at)) ∙ ap Some (sym is.device);
      unseen = ap (option_map (λ (c : List (Option OpenBlock)). block_in c unread.block)) (ap (slice_get (copies ++ copy ∷ [])) (sym count) ∙ last_at copies copy) ∙ ap Some is.unseen;
    }
