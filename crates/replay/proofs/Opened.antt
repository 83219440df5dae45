-- What a session's beginning and the mending of the journal come to together.
use Rattle.std.proofs.Common.{◌≡◌, ℕ, ◌+◌, ◌<◌, ◌≤◌, ⊎_elim, List, ap, ◌∙◌, sym, subst, arith, All}
use Rattle.std.proofs.lemmas.Bool.{cases_lt}
use Rattle.std.proofs.lemmas.List.Elements.{All-weaker}
use Rattle.dev_model.specs.CrashLaws.{as_read_may_be_left}
use Rattle.dev_model.specs.Crashes.{EachCrash, SameBut}
use Rattle.dev_model.specs.Devices.{DevicesState, now}
use Rattle.dev_model.specs.Disk.{Disk, Image, IsCrashImage, IsDisk, as_read}
use Rattle.geometry.specs.Mirrors.{AreAtRest}
use Rattle.geometry.specs.SessionLaws.{place_is_low}
use Rattle.geometry.specs.Sessions.{IsSessionPlace}
use Rattle.image_view.specs.Found.{AreOwned, Found, IsInOrder, with_session}
use Rattle.image_view.specs.Mends.{HasNoEqualDigest, StandsIn}
use Rattle.image_view.specs.NextEntries.{AreNumberedBelow}
use Rattle.journal_ring.specs.Parts.{area_of}
use Rattle.key_codec.specs.Combined.{ok_is}
use Rattle.vol_types.specs.declared.layout.Layout.{Layout}
use Rattle.replay.specs.Beginning.{IsFoundOn, MeansTheSame}
use Rattle.replay.specs.Mending.{BringsNoBlock, ChangesJournal, IsInOrderOn, IsJournalBlock, KeepsMeaning, KeepsPast, KeepsSession}
use Rattle.replay.specs.Untorn.{volume_untorn_in_session, volume_untorn_since}
use Rattle.replay.proofs.MendedMeaning.{means_the_same}
use Rattle.replay.proofs.NextSession.{journal_session, sessions_before}

-- ---- one meaning after another

-- What means the same as an image that means the same means the same.
pub means_then : (f : Found) (one mid image : Image) (session : ℕ) → (first : MeansTheSame f one mid) → first.session ≡ session → MeansTheSame (with_session session f) mid image → MeansTheSame f one image
means_then f one mid image session first is second =
    let later = first.later in
    let more = second.later in
    record {
      session = second.session;
      later = omega (arith, later, more, is);
      finds = second.finds;
      in_order = λ order. second.in_order (subst (λ s. IsInOrder (with_session s f) mid) is (first.in_order order));
      mounts = λ volume mounts. second.mounts volume (first.mounts volume mounts);
      unsound = λ check unsound. second.unsound check (first.unsound check unsound);
    }

-- ---- the session has begun

-- The journal areas are as they were.
area_same : (layout : Layout) (session : ℕ) (one other : Image) → SameBut (IsSessionPlace layout session) one other → (dev place : ℕ) → area_of other dev place ≡ area_of one dev place
area_same layout session one other same dev place = sym (same dev (16 + place) (λ at. let low = place_is_low session in let here = at.1 in omega (arith, low, here)))

-- So no two records there have one digest.
digests_same : (layout : Layout) (session : ℕ) (one other : Image) → SameBut (IsSessionPlace layout session) one other → HasNoEqualDigest layout (area_of one) → HasNoEqualDigest layout (area_of other)
digests_same layout session one other same apart these those payload second digest standing others record_is other_is =
    apart these those payload second digest (All-weaker (StandsIn layout (area_of other)) (StandsIn layout (area_of one)) stood these standing) (All-weaker (StandsIn layout (area_of other)) (StandsIn layout (area_of one)) stood those others) record_is other_is
  where
    stood : (bytes : List ℕ) → StandsIn layout (area_of other) bytes → StandsIn layout (area_of one) bytes
    stood bytes there = record { dev = there.dev; place = there.place; mirror = there.mirror; within = there.within; stands = sym (area_same layout session one other same there.dev there.place) ∙ there.stands }

module _ (f : Found) (layout : Layout) (session : ℕ) (layouts : f.layout ≡ layout) (sessions : f.session ≡ session) (old mid : DevicesState) (on : IsInOrderOn f (now old)) (crashes : EachCrash (λ _ _ image. MeansTheSame f (as_read (now old)) image) old mid) where
  -- Whatever a crash leaves until then means the same.
  pub keeps_begun : KeepsSession f old mid → KeepsMeaning f old mid
  keeps_begun kept = record { means = λ m lo hi image may untorn. crashes.each m lo hi image may; session = kept }

  module _ (are : All IsDisk (now mid)) (begun : IsFoundOn (with_session (session + 1) f) (now mid)) (rest : AreAtRest layout.metadata_replicas (now mid)) (elsewhere : SameBut (IsSessionPlace layout (session + 1)) (as_read (now old)) (as_read (now mid))) where
    means : MeansTheSame f (as_read (now old)) (as_read (now mid))
    means = crashes.each mid.moment crashes.later (omega arith) (as_read (now mid)) (as_read_may_be_left (now mid) are)

    session_is : means.session ≡ session + 1
    session_is = ap (λ (g : Found). g.session) (ok_is (with_session means.session f) (with_session (session + 1) f) (sym means.finds ∙ begun.finds))

    -- The devices show it in order, in the next session.
    pub in_order_begun : IsInOrderOn (with_session (session + 1) f) (now mid)
    in_order_begun = record {
      on = begun;
      rest = subst (λ (l : Layout). AreAtRest l.metadata_replicas (now mid)) (sym layouts) rest;
      order = subst (λ s. IsInOrder (with_session s f) (as_read (now mid))) session_is (means.in_order on.order);
      digests = digests_same f.layout (session + 1) (as_read (now old)) (as_read (now mid)) (subst (λ (l : Layout). SameBut (IsSessionPlace l (session + 1)) (as_read (now old)) (as_read (now mid))) (sym layouts) elsewhere) on.digests;
    }

    -- ---- and the journal is mended

    -- What is read then means the same, where it is in order.
    pub means_both : (new : DevicesState) → ChangesJournal layout mid new → All IsDisk (now new) → IsInOrderOn (with_session (session + 1) f) (now new) → MeansTheSame f (as_read (now old)) (as_read (now new))
    means_both new changes are_new on_new = means_then f (as_read (now old)) (as_read (now mid)) (as_read (now new)) (session + 1) means session_is
        (means_the_same (with_session (session + 1) f) (as_read (now mid)) (as_read (now new)) begun.finds on_new.on.finds on_new.order
        (subst (λ (l : Layout). SameBut (IsJournalBlock l) (as_read (now mid)) (as_read (now new))) (sym layouts) (changes.each new.moment changes.later (omega arith) (as_read (now new)) (as_read_may_be_left (now new) are_new))))

    -- Whatever a crash leaves from the beginning on means the same.
    pub keeps_both : (new : DevicesState) → ChangesJournal layout mid new → KeepsSession f old mid → KeepsMeaning (with_session (session + 1) f) mid new → KeepsMeaning f old new
    keeps_both new changes kept keeps = record {
      means = λ m lo hi image may untorn. ⊎_elim
          (λ (after : mid.moment < m). means_then f (as_read (now old)) (as_read (now mid)) image (session + 1) means session_is
          (keeps.means m (omega (arith, after)) hi image may (volume_untorn_in_session f (session + 1) mid.moment m new image (volume_untorn_since f old.moment mid.moment m new image crashes.later untorn))))
          (λ (earlier : m ≤ mid.moment). crashes.each m lo earlier image (subst (λ (ds : List Disk). IsCrashImage ds image) (changes.past m earlier) may))
          (cases_lt mid.moment m);
      session = λ m lo hi image may untorn s named. ⊎_elim
          (λ (after : mid.moment < m).
          let same : s ≡ session + 1 = journal_session (with_session (session + 1) f) (as_read (now mid)) image begun.finds
          (subst (λ (l : Layout). SameBut (IsJournalBlock l) (as_read (now mid)) image) (sym layouts) (changes.each m (omega (arith, after)) hi image may)) s named in
          (let e : s ≤ f.session + 1 = omega (arith, same, sessions) in e))
          (λ (earlier : m ≤ mid.moment).
          kept m lo earlier image (subst (λ (ds : List Disk). IsCrashImage ds image) (changes.past m earlier) may) (sessions_before f.layout old.moment m mid new image changes.past earlier untorn) s named)
          (cases_lt mid.moment m);
    }

-- ---- what was

-- What was up to the first of two parts stays in the second.
pub past_then : (old mid new : DevicesState) → old.moment ≤ mid.moment → KeepsPast old mid → KeepsPast mid new → KeepsPast old new
past_then old mid new later first second moment le = second moment (omega (arith, le, later)) ∙ first moment le

-- ---- no block of the session stands

-- When a session begins no block of it stands in the journal areas, and mending brings none there.
pub unwritten : (f : Found) (session : ℕ) → f.session ≡ session → (old mid new : Image) → AreOwned f.layout f.session (area_of old) → SameBut (IsSessionPlace f.layout (session + 1)) old mid → BringsNoBlock f.layout mid new
    → (number : ℕ) → AreNumberedBelow f.layout (session + 1) number (area_of new)
unwritten f session sessions old mid new owned elsewhere brings number dev place bytes head mirror within stands opens kind id owner =
    let there = brings bytes (record { dev = dev; place = place; mirror = mirror; within = within; stands = stands }) in
    let most = owned there.dev there.place bytes head there.mirror there.within (sym (area_same f.layout (session + 1) old mid elsewhere there.dev there.place) ∙ there.stands) opens kind id in
    absurd (omega (arith, most, owner, sessions))
