-- Whatever crashes left goes on meaning one of what an entry led to, over a call.
use Rattle.std.proofs.Common.{⊎_elim, ℕ, ◌<◌, ◌≤◌, List, Option, subst, arith}
use Rattle.std.proofs.lemmas.Bool.{cases_lt}
use Rattle.std.specs.Prelude.{All}
use Rattle.dev_model.specs.Devices.{DevicesState, now}
use Rattle.dev_model.specs.Disk.{Disk, Image, IsCrashImage, IsDisk, as_read}
use Rattle.image_view.specs.CrashEntries.{OnlyHeldEntriesOpen}
use Rattle.image_view.specs.Found.{Found}
use Rattle.crash_safety.specs.Parts.{AsksAt}
use Rattle.crash_safety.specs.Safety.{IsJournalSafe, IsSafe}
use Rattle.crash_safety.specs.Standing.{StandsOn}
use Rattle.crash_safety.specs.Writings.{HoldParts, Writing}
use Rattle.crash_safety.proofs.Calls.{HasSizes, IsHarmless, held_at, left_agrees, nodes_left, stands_on, untorn_before}
use Rattle.crash_safety.proofs.Meanings.{ImageLaws}
use Rattle.crash_safety.proofs.OnEach.{each_of}

module _ (laws : ImageLaws) (f : Found) (image : Image) (writing : Option Writing) (asked written : ℕ) (bases : List Found) (durable : List ℕ) (first : ℕ) (old : DevicesState) (safe : IsJournalSafe f image writing asked written bases durable first old) (new : DevicesState)
    (touched : ℕ → ℕ → Type 0) (asks_for : ℕ → ℕ → List ℕ → Type 0) (call : AsksAt touched asks_for old new) (count : ℕ) (harmless : IsHarmless f image writing asked count touched asks_for)
    (sized : HasSizes f image writing asked written first old safe.stands new touched asks_for call count harmless) where
  abbrev stands : StandsOn f image writing asked written first old
  stands = safe.stands

  safe_more : IsSafe f.layout bases durable first new
  safe_more = record {
    each = λ moment lo hi other may untorn. ⊎_elim
        (λ (later : old.moment < moment).
        let from : old.moment ≤ moment = omega (arith, later) in
        each_of laws f image stands.finds stands.in_order stands.numbered stands.whole writing stands.is stands.alike bases durable safe.bases_are count other (new.disks moment)
        (left_agrees f image writing asked written first old stands new touched asks_for call count harmless sized moment from hi other may)
        (nodes_left f image writing asked written first old stands new touched asks_for call count harmless sized moment from hi other may)
        (held_at f image writing asked written first old stands new touched asks_for call count harmless sized moment from hi untorn.reads) untorn.left moment)
        (λ (earlier : moment ≤ old.moment).
        let past = call.crashes.past in
        safe.safe.each moment lo earlier other (subst (λ (ds : List Disk). IsCrashImage ds other) (past moment earlier) may) (record {
          reads = untorn_before f.layout first moment moment old new past (omega arith) earlier untorn.reads;
          left = subst (λ (ds : List Disk). OnlyHeldEntriesOpen f.layout ds other) (past moment earlier) untorn.left;
        }))
        (cases_lt old.moment moment);
  }

  pub journal_safe_on : (standing : ℕ) → All IsDisk (now new) → HoldParts f.layout writing standing (as_read (now new)) → IsJournalSafe f image writing count standing bases durable first new
  journal_safe_on standing are stand = record {
    stands = stands_on f image writing asked written first old stands new touched asks_for call count harmless sized standing are stand;
    bases_are = safe.bases_are;
    safe = safe_more;
  }
