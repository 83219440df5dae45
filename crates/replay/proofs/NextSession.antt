-- At most one session is begun while a volume is opened, where no torn block of a session opens by chance.
use Rattle.std.proofs.Common.{◌≡◌, ℕ, ◌+◌, ◌<◌, ◌≤◌, Bool, IsTrue, List, Some, ⊎_elim, ap, ◌∙◌, sym, subst, arith, All}
use Rattle.std.specs.Prelude.{Ok, is_some, option_and_then}
use Rattle.std.proofs.lemmas.Bool.{cases_lt}
use Rattle.std.proofs.lemmas.Option.{option_and_then_some, same_Some}
use Rattle.dev_model.specs.Crashes.{SameBut}
use Rattle.dev_model.specs.Devices.{DevicesState, now}
use Rattle.dev_model.specs.Disk.{Disk, Image, IsCrashImage, IsDisk, as_read, block_at}
use Rattle.dev_model.specs.Frames.{DisksStay}
use Rattle.dev_model.specs.HeldBlocks.{HaveHeld, HoldOnly, OnlyHeldOpensAt}
use Rattle.dev_model.specs.HeldLaws.{no_chance_before}
use Rattle.geometry.specs.SessionLaws.{four_or_five, greatest_is_named}
use Rattle.geometry.specs.Sessions.{IsSessionBlock, session_block, session_in, session_named, session_place}
use Rattle.image_view.specs.BaseLaws.{found-session, greatest_session-same}
use Rattle.image_view.specs.CrashEntries.{opens}
use Rattle.image_view.specs.Found.{Found, found}
use Rattle.sealed_block.specs.declared.heads.Head.{Head}
use Rattle.sealed_block.specs.Opening.{opened}
use Rattle.vol_types.specs.declared.layout.Layout.{Layout}
use Rattle.replay.specs.Beginning.{IsFoundOn}
use Rattle.replay.specs.Mending.{AreSessionsUntorn, IsInOrderOn, IsJournalBlock, IsOfSessions, KeepsPast, KeepsSession}
use Rattle.replay.proofs.MendedEntry.{rest_held}
use Rattle.replay.proofs.Sessions.{greatest_least}

-- ---- premises

-- Where no torn block of a session opens by chance up to a moment of the past, by the disks of a later state, none does by those of the earlier one.
pub sessions_before : (layout : Layout) (first moment : ℕ) (mid new : DevicesState) (image : Image) → KeepsPast mid new → moment ≤ mid.moment → AreSessionsUntorn layout first moment new image → AreSessionsUntorn layout first moment mid image
sessions_before layout first moment mid new image past before untorn = record {
  reads = λ dev block at. no_chance_before opens dev block first moment mid new past moment (omega arith) before (untorn.reads dev block at);
  left = λ dev block at. subst (λ (ds : List Disk). OnlyHeldOpensAt opens ds image dev block) (past moment before) (untorn.left dev block at);
}

-- So it is since a later first moment.
pub sessions_since : (layout : Layout) (first since moment : ℕ) (state : DevicesState) (image : Image) → first ≤ since → AreSessionsUntorn layout first moment state image → AreSessionsUntorn layout since moment state image
sessions_since layout first since moment state image later untorn = record {
  reads = λ dev block at m from to. untorn.reads dev block at m (omega (arith, later, from)) to;
  left = untorn.left;
}

-- ---- images that name the session that was found

-- An image that differs in the journal areas alone has the session that was found.
pub journal_session : (f : Found) (one image : Image) → found one ≡ Ok f → SameBut (IsJournalBlock f.layout) one image → (session : ℕ) → session_in f.layout image ≡ Some session → session ≡ f.session
journal_session f one image is same session named = same_Some session f.session
    (sym named ∙ greatest_session-same f.layout.id one image f.layout.metadata_replicas
    (λ dev mirror. same dev 4 (λ at. let behind = at.behind in omega (arith, behind))) (λ dev mirror. same dev 5 (λ at. let behind = at.behind in omega (arith, behind)))
    ∙ found-session one f is)

-- So has what a crash leaves of quiet disks.
pub quiet_session : (f : Found) (disks : List Disk) → IsFoundOn f disks → (image : Image) → IsCrashImage disks image → (session : ℕ) → session_in f.layout image ≡ Some session → session ≤ f.session + 1
quiet_session f disks on image may session named =
    let same : session ≡ f.session = same_Some session f.session (sym named ∙ ap (session_in f.layout) (on.quiet image may) ∙ found-session (as_read disks) f on.finds) in
    omega (arith, same)

-- While disks stay the session does,
pub stay_session : (f : Found) (old new : DevicesState) → IsFoundOn f (now old) → DisksStay old new → KeepsSession f old new
stay_session f old new on stay m lo hi image may untorn = quiet_session f (now old) on image (subst (λ (ds : List Disk). IsCrashImage ds image) (stay.same m lo hi) may)

-- and also while what follows keeps it.
pub stay_then_session : (f : Found) (old mid new : DevicesState) → IsFoundOn f (now old) → DisksStay old mid → KeepsPast mid new → KeepsSession f mid new → KeepsSession f old new
stay_then_session f old mid new on stay past keeps m lo hi image may untorn = ⊎_elim
    (λ (after : mid.moment < m). keeps m (omega (arith, after)) hi image may (sessions_since f.layout old.moment mid.moment m new image stay.later untorn))
    (λ (earlier : m ≤ mid.moment). quiet_session f (now old) on image (subst (λ (ds : List Disk). IsCrashImage ds image) (past m earlier ∙ stay.same m lo earlier) may))
    (cases_lt mid.moment m)

-- ---- a session that is sealed

is_open : (id : List ℕ) (block : ℕ) (bytes : List ℕ) (session : ℕ) → session_named id block bytes ≡ Some session → IsTrue (opens bytes)
unfolding session_named
is_open id block bytes session is = option_and_then_some _ (opened bytes) session is (λ (head : Head) at found. ap is_some at)

-- While the next session is sealed, and nothing else is asked for, no greater one is named.
pub sealed_session : (f : Found) (old new : DevicesState) → All IsDisk (now old) → IsInOrderOn f (now old) → ((opening : List ℕ → Bool) → HoldOnly opening (IsSessionBlock f.layout (f.session + 1)) old new)
    → session_named f.layout.id (session_place (f.session + 1)) (session_block f.layout.id (f.session + 1)) ≡ Some (f.session + 1) → KeepsSession f old new
sealed_session f old new are on asks names m lo hi image may untorn session named =
    let id : List ℕ = f.layout.id in
    let by = greatest_is_named id image f.layout.metadata_replicas session named in
    let at : IsOfSessions f.layout by.dev (session_place session) = record { mirror = by.within; place = four_or_five session } in
    option_and_then_some (session_named id (session_place session)) (block_at image by.dev (session_place session)) session by.named (λ bytes stands is.
    ⊎_elim
    (λ (before : HaveHeld (now old) by.dev (session_place session) bytes).
    let read : block_at (as_read (now old)) by.dev (session_place session) ≡ Some bytes = rest_held f.layout.metadata_replicas (now old) by.dev (session_place session) bytes are on.rest by.within before in
    let most = greatest_least id (as_read (now old)) f.layout.metadata_replicas f.session by.dev session (found-session (as_read (now old)) f on.on.finds) by.within (ap (option_and_then (session_named id (session_place session))) read ∙ is) in
    (let e : session ≤ f.session + 1 = omega (arith, most) in e))
    (λ (asked : IsSessionBlock f.layout (f.session + 1) by.dev (session_place session) bytes).
    let next : session ≡ f.session + 1 = same_Some session (f.session + 1)
    (sym is ∙ ap (session_named id (session_place session)) asked.1 ∙ ap (λ place. session_named id place (session_block id (f.session + 1))) asked.0.1 ∙ names) in
    (let e : session ≤ f.session + 1 = omega (arith, next) in e))
    (asks opens m lo hi by.dev (session_place session) (untorn.reads by.dev (session_place session) at) bytes (is_open id (session_place session) bytes session is)
    (untorn.left by.dev (session_place session) at bytes stands (is_open id (session_place session) bytes session is))))
