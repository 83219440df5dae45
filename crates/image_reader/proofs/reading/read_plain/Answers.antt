use Rattle.std.proofs.Common.{◌≡◌, ◌≤◌, ℕ, All, List, Ok, Err, length, map, sym, subst, true}
use Rattle.std.specs.Option.{ok_or}
use Rattle.std.specs.List.{flat_map}
use Rattle.std.specs.Map.{values_of}
use Rattle.dev_model.specs.Devices.{now}
use Rattle.dev_model.specs.Disk.{Image, as_read}
use Rattle.dev_model.specs.FrameLaws.{only_read_then}
use Rattle.geometry.specs.Faults.{DeviceFailed, SomeFailed}
use Rattle.geometry.specs.Layouts.{is_layout_of}
use Rattle.geometry.specs.Sessions.{session_in}
use Rattle.image_view.specs.Found.{found, sets_in, updates_of}
use Rattle.image_view.specs.Trees.{joined, trees_of}
use Rattle.image_view.specs.declared.fault.MountFault.{MountFault}
use Rattle.image_view.specs.declared.fault.MountFault.TheVariants.{NoEntry}
use Rattle.journal_ring.specs.Parts.{area_of}
use Rattle.journal_ring.specs.declared.found.FoundEntry.{FoundEntry}
use Rattle.image_reader.specs.Answers.{AreRagged, AreSureTrees, Finds, Tells}
use Rattle.image_reader.specs.Faults.{mount_fault_device}
use Rattle.image_reader.specs.Volumes.{btree_in, entries_in, found_of, last_of, with_last}
use Rattle.image_reader.specs.declared.found.FoundBtree.{FoundBtree}
use Rattle.image_reader.specs.declared.found.FoundVolume.{FoundVolume}
use Rattle.image_reader.proofs.Counts.{cause_behind, failed_by_read, of_first, sure_behind}
use Rattle.image_reader.proofs.FoundTold.{early_at, finds_at_entries, finds_at_layout, finds_at_session, found_not, found_told, handed_cause, handed_finds, read_is, sure_trees}
use Rattle.image_reader.proofs.RaggedTold.{ragged_btrees}
use Rattle.image_reader.proofs.reading.read_plain.Goals as goal

pub returns-in_err-layout-clause-found : goal.returns-in_err-layout-clause-found
returns-in_err-layout-clause-found g c told unfailed =
    let D = g.D.Devices in
    let old = D.state c.args.devices.now in
    let image = as_read (now old) in
    let one = D.state c.layout_of.new.devices in
    let now_state = one in
    let fault = c.in_err-layout.field-0.0 in
    handed_finds found_of (found image) c.from_residual.result fault c.from_residual.ensures.1 (finds_at_layout image fault (c.in_err-layout.ensures.found told))

pub returns-in_err-layout-clause-made_up : goal.returns-in_err-layout-clause-made_up
returns-in_err-layout-clause-made_up g c told f is agree =
    let D = g.D.Devices in
    let old = D.state c.args.devices.now in
    let image = as_read (now old) in
    let one = D.state c.layout_of.new.devices in
    let now_state = one in
    let fault = c.in_err-layout.field-0.0 in
    read_is (found image) f c.from_residual.result is (handed_finds found_of (found image) c.from_residual.result fault c.from_residual.ensures.1 (finds_at_layout image fault (c.in_err-layout.ensures.found told)))

pub returns-in_err-layout-clause-early : goal.returns-in_err-layout-clause-early
returns-in_err-layout-clause-early g c told other same early =
    let D = g.D.Devices in
    let old = D.state c.args.devices.now in
    let image = as_read (now old) in
    let one = D.state c.layout_of.new.devices in
    let now_state = one in
    let fault = c.in_err-layout.field-0.0 in
    early_at (found image) c.from_residual.result other (handed_finds found_of (found image) c.from_residual.result fault c.from_residual.ensures.1 (finds_at_layout image fault (c.in_err-layout.ensures.found told))) same early

pub returns-in_err-layout-clause-cause : goal.returns-in_err-layout-clause-cause
returns-in_err-layout-clause-cause g c =
    let D = g.D.Devices in
    let old = D.state c.args.devices.now in
    let image = as_read (now old) in
    let one = D.state c.layout_of.new.devices in
    let now_state = one in
    let fault = c.in_err-layout.field-0.0 in
    handed_cause c.from_residual.result fault (λ dev. DeviceFailed dev old.faults now_state.faults) c.from_residual.ensures.1 (failed_by_read (mount_fault_device fault) old.faults one.faults (length old.sizes) c.in_err-layout.ensures.cause (g.met.D.Devices.counted c.args.devices.now) c.layout_of.ensures.few_devices c.in_err-layout.ensures.device)

pub returns-in_err-session-clause-found : goal.returns-in_err-session-clause-found
returns-in_err-session-clause-found g c told unfailed =
    let D = g.D.Devices in
    let old = D.state c.args.devices.now in
    let image = as_read (now old) in
    let one = D.state c.layout_of.new.devices in
    let layout = c.in_ok-layout.layout in
    let two = D.state c.session_of.new.devices in
    let now_state = two in
    let fault = c.in_err-session.field-0.0 in
    handed_finds found_of (found image) c.from_residual-in_err-session.result fault c.from_residual-in_err-session.ensures.1 (finds_at_session image layout (c.in_ok-layout.ensures.found told) fault
    (of_first D.tells old one two c.layout_of.ensures.read c.session_of.ensures.read told (λ (im : Image). Finds {X = ℕ} (λ session. session) (ok_or (session_in layout im) NoEntry) (Err fault)) (c.in_err-session.ensures.found told)))

pub returns-in_err-session-clause-made_up : goal.returns-in_err-session-clause-made_up
returns-in_err-session-clause-made_up g c told f is agree =
    let D = g.D.Devices in
    let old = D.state c.args.devices.now in
    let image = as_read (now old) in
    let one = D.state c.layout_of.new.devices in
    let layout = c.in_ok-layout.layout in
    let two = D.state c.session_of.new.devices in
    let now_state = two in
    let fault = c.in_err-session.field-0.0 in
    read_is (found image) f c.from_residual-in_err-session.result is (handed_finds found_of (found image) c.from_residual-in_err-session.result fault c.from_residual-in_err-session.ensures.1 (finds_at_session image layout (c.in_ok-layout.ensures.found told) fault
    (of_first D.tells old one two c.layout_of.ensures.read c.session_of.ensures.read told (λ (im : Image). Finds {X = ℕ} (λ session. session) (ok_or (session_in layout im) NoEntry) (Err fault)) (c.in_err-session.ensures.found told))))

pub returns-in_err-session-clause-early : goal.returns-in_err-session-clause-early
returns-in_err-session-clause-early g c told other same early =
    let D = g.D.Devices in
    let old = D.state c.args.devices.now in
    let image = as_read (now old) in
    let one = D.state c.layout_of.new.devices in
    let layout = c.in_ok-layout.layout in
    let two = D.state c.session_of.new.devices in
    let now_state = two in
    let fault = c.in_err-session.field-0.0 in
    early_at (found image) c.from_residual-in_err-session.result other (handed_finds found_of (found image) c.from_residual-in_err-session.result fault c.from_residual-in_err-session.ensures.1 (finds_at_session image layout (c.in_ok-layout.ensures.found told) fault
    (of_first D.tells old one two c.layout_of.ensures.read c.session_of.ensures.read told (λ (im : Image). Finds {X = ℕ} (λ session. session) (ok_or (session_in layout im) NoEntry) (Err fault)) (c.in_err-session.ensures.found told)))) same early

pub returns-in_err-session-clause-cause : goal.returns-in_err-session-clause-cause
returns-in_err-session-clause-cause g c =
    let D = g.D.Devices in
    let old = D.state c.args.devices.now in
    let image = as_read (now old) in
    let one = D.state c.layout_of.new.devices in
    let layout = c.in_ok-layout.layout in
    let two = D.state c.session_of.new.devices in
    let now_state = two in
    let fault = c.in_err-session.field-0.0 in
    handed_cause c.from_residual-in_err-session.result fault (λ dev. DeviceFailed dev old.faults now_state.faults) c.from_residual-in_err-session.ensures.1 (cause_behind (mount_fault_device fault) old.faults one.faults two.faults c.layout_of.ensures.read.calls
    (failed_by_read (mount_fault_device fault) one.faults two.faults (length one.sizes) c.in_err-session.ensures.cause (g.met.D.Devices.counted c.layout_of.new.devices) (subst (λ (sizes : List ℕ). length sizes ≤ 8) (sym c.layout_of.ensures.read.sizes) c.layout_of.ensures.few_devices) c.in_err-session.ensures.device))

pub returns-in_err-needed-clause-found : goal.returns-in_err-needed-clause-found
returns-in_err-needed-clause-found g c told unfailed =
    let D = g.D.Devices in
    let old = D.state c.args.devices.now in
    let image = as_read (now old) in
    let one = D.state c.layout_of.new.devices in
    let layout = c.in_ok-layout.layout in
    let two = D.state c.session_of.new.devices in
    let session = c.in_ok-session.session in
    let three = D.state c.needed_of.new.devices in
    let r2 = only_read_then D.tells old one two c.layout_of.ensures.read c.session_of.ensures.read in
    let now_state = three in
    let fault = c.in_err-needed.field-0.0 in
    handed_finds found_of (found image) c.from_residual-in_err-needed.result fault c.from_residual-in_err-needed.ensures.1 (finds_at_entries image layout (c.in_ok-layout.ensures.found told) session (of_first D.tells old one two c.layout_of.ensures.read c.session_of.ensures.read told (λ (im : Image). ok_or (session_in layout im) NoEntry ≡ Ok session) (c.in_ok-session.ensures.found told)) fault
    (of_first D.tells old two three r2 c.needed_of.ensures.read told (λ (im : Image). Finds {X = List FoundEntry} with_last (entries_in layout (area_of im)) (Err fault)) (c.in_err-needed.ensures.found told)))

pub returns-in_err-needed-clause-made_up : goal.returns-in_err-needed-clause-made_up
returns-in_err-needed-clause-made_up g c told f is agree =
    let D = g.D.Devices in
    let old = D.state c.args.devices.now in
    let image = as_read (now old) in
    let one = D.state c.layout_of.new.devices in
    let layout = c.in_ok-layout.layout in
    let two = D.state c.session_of.new.devices in
    let session = c.in_ok-session.session in
    let three = D.state c.needed_of.new.devices in
    let r2 = only_read_then D.tells old one two c.layout_of.ensures.read c.session_of.ensures.read in
    let now_state = three in
    let fault = c.in_err-needed.field-0.0 in
    read_is (found image) f c.from_residual-in_err-needed.result is (handed_finds found_of (found image) c.from_residual-in_err-needed.result fault c.from_residual-in_err-needed.ensures.1 (finds_at_entries image layout (c.in_ok-layout.ensures.found told) session (of_first D.tells old one two c.layout_of.ensures.read c.session_of.ensures.read told (λ (im : Image). ok_or (session_in layout im) NoEntry ≡ Ok session) (c.in_ok-session.ensures.found told)) fault
    (of_first D.tells old two three r2 c.needed_of.ensures.read told (λ (im : Image). Finds {X = List FoundEntry} with_last (entries_in layout (area_of im)) (Err fault)) (c.in_err-needed.ensures.found told))))

pub returns-in_err-needed-clause-early : goal.returns-in_err-needed-clause-early
returns-in_err-needed-clause-early g c told other same early =
    let D = g.D.Devices in
    let old = D.state c.args.devices.now in
    let image = as_read (now old) in
    let one = D.state c.layout_of.new.devices in
    let layout = c.in_ok-layout.layout in
    let two = D.state c.session_of.new.devices in
    let session = c.in_ok-session.session in
    let three = D.state c.needed_of.new.devices in
    let r2 = only_read_then D.tells old one two c.layout_of.ensures.read c.session_of.ensures.read in
    let now_state = three in
    let fault = c.in_err-needed.field-0.0 in
    early_at (found image) c.from_residual-in_err-needed.result other (handed_finds found_of (found image) c.from_residual-in_err-needed.result fault c.from_residual-in_err-needed.ensures.1 (finds_at_entries image layout (c.in_ok-layout.ensures.found told) session (of_first D.tells old one two c.layout_of.ensures.read c.session_of.ensures.read told (λ (im : Image). ok_or (session_in layout im) NoEntry ≡ Ok session) (c.in_ok-session.ensures.found told)) fault
    (of_first D.tells old two three r2 c.needed_of.ensures.read told (λ (im : Image). Finds {X = List FoundEntry} with_last (entries_in layout (area_of im)) (Err fault)) (c.in_err-needed.ensures.found told)))) same early

pub returns-in_err-needed-clause-cause : goal.returns-in_err-needed-clause-cause
returns-in_err-needed-clause-cause g c =
    let D = g.D.Devices in
    let old = D.state c.args.devices.now in
    let image = as_read (now old) in
    let one = D.state c.layout_of.new.devices in
    let layout = c.in_ok-layout.layout in
    let two = D.state c.session_of.new.devices in
    let session = c.in_ok-session.session in
    let three = D.state c.needed_of.new.devices in
    let r2 = only_read_then D.tells old one two c.layout_of.ensures.read c.session_of.ensures.read in
    let now_state = three in
    let fault = c.in_err-needed.field-0.0 in
    handed_cause c.from_residual-in_err-needed.result fault (λ dev. DeviceFailed dev old.faults now_state.faults) c.from_residual-in_err-needed.ensures.1 (cause_behind (mount_fault_device fault) old.faults two.faults three.faults r2.calls
    (failed_by_read (mount_fault_device fault) two.faults three.faults (length two.sizes) c.in_err-needed.ensures.cause (g.met.D.Devices.counted c.session_of.new.devices) (subst (λ (sizes : List ℕ). length sizes ≤ 8) (sym r2.sizes) c.layout_of.ensures.few_devices) c.in_err-needed.ensures.device))

pub returns-in-Ok-clause-found : goal.returns-in-Ok-clause-found
returns-in-Ok-clause-found g c told unfailed =
    let D = g.D.Devices in
    let old = D.state c.args.devices.now in
    let image = as_read (now old) in
    let one = D.state c.layout_of.new.devices in
    let layout = c.in_ok-layout.layout in
    let two = D.state c.session_of.new.devices in
    let session = c.in_ok-session.session in
    let three = D.state c.needed_of.new.devices in
    let r2 = only_read_then D.tells old one two c.layout_of.ensures.read c.session_of.ensures.read in
    let needed = c.in_ok-needed.needed in
    let four = D.state c.btrees_of.new.devices in
    let r3 = only_read_then D.tells old two three r2 c.needed_of.ensures.read in
    let lays = c.in_ok-layout.ensures.found told in
    let names = of_first D.tells old one two c.layout_of.ensures.read c.session_of.ensures.read told (λ (im : Image). ok_or (session_in layout im) NoEntry ≡ Ok session) (c.in_ok-session.ensures.found told) in
    let entries = of_first D.tells old two three r2 c.needed_of.ensures.read told (λ (im : Image). entries_in layout (area_of im) ≡ Ok (with_last needed)) (c.in_ok-needed.ensures.found told) in
    let trees : Tells {X = List FoundBtree} (λ bs. joined (map btree_in bs)) (trees_of (sets_in layout image) (updates_of needed) (last_of needed).entry.roots) (Ok c.in-Ok.btrees) =
    of_first D.tells old three four r3 c.btrees_of.ensures.read told
    (λ (im : Image). (SomeFailed three.faults four.faults → AreSureTrees layout.id im (trees_of (sets_in layout im) (updates_of needed) (last_of needed).entry.roots)) → Tells {X = List FoundBtree} (λ bs. joined (map btree_in bs)) (trees_of (sets_in layout im) (updates_of needed) (last_of needed).entry.roots) (Ok c.in-Ok.btrees))
    (subst (λ (es : List FoundEntry). (SomeFailed three.faults four.faults → AreSureTrees layout.id (as_read (now three)) (trees_of (sets_in layout (as_read (now three))) (updates_of es) (last_of es).entry.roots)) → Tells {X = List FoundBtree} (λ bs. joined (map btree_in bs)) (trees_of (sets_in layout (as_read (now three))) (updates_of es) (last_of es).entry.roots) (Ok c.in-Ok.btrees)) c.as_slice.ensures (c.in-Ok.ensures.found told))
    (λ failed. absurd (sure_behind D.tells old three four r3 c.btrees_of.ensures.read {P = ⊥} unfailed failed)) in
    found_told image layout lays session names needed entries c.in-Ok.btrees trees

pub returns-in-Ok-clause-made_up : goal.returns-in-Ok-clause-made_up
returns-in-Ok-clause-made_up g c told f is agree =
    let D = g.D.Devices in
    let old = D.state c.args.devices.now in
    let image = as_read (now old) in
    let one = D.state c.layout_of.new.devices in
    let layout = c.in_ok-layout.layout in
    let two = D.state c.session_of.new.devices in
    let session = c.in_ok-session.session in
    let three = D.state c.needed_of.new.devices in
    let r2 = only_read_then D.tells old one two c.layout_of.ensures.read c.session_of.ensures.read in
    let needed = c.in_ok-needed.needed in
    let four = D.state c.btrees_of.new.devices in
    let r3 = only_read_then D.tells old two three r2 c.needed_of.ensures.read in
    let lays = c.in_ok-layout.ensures.found told in
    let names = of_first D.tells old one two c.layout_of.ensures.read c.session_of.ensures.read told (λ (im : Image). ok_or (session_in layout im) NoEntry ≡ Ok session) (c.in_ok-session.ensures.found told) in
    let entries = of_first D.tells old two three r2 c.needed_of.ensures.read told (λ (im : Image). entries_in layout (area_of im) ≡ Ok (with_last needed)) (c.in_ok-needed.ensures.found told) in
    let trees : Tells {X = List FoundBtree} (λ bs. joined (map btree_in bs)) (trees_of (sets_in layout image) (updates_of needed) (last_of needed).entry.roots) (Ok c.in-Ok.btrees) =
    of_first D.tells old three four r3 c.btrees_of.ensures.read told
    (λ (im : Image). (SomeFailed three.faults four.faults → AreSureTrees layout.id im (trees_of (sets_in layout im) (updates_of needed) (last_of needed).entry.roots)) → Tells {X = List FoundBtree} (λ bs. joined (map btree_in bs)) (trees_of (sets_in layout im) (updates_of needed) (last_of needed).entry.roots) (Ok c.in-Ok.btrees))
    (subst (λ (es : List FoundEntry). (SomeFailed three.faults four.faults → AreSureTrees layout.id (as_read (now three)) (trees_of (sets_in layout (as_read (now three))) (updates_of es) (last_of es).entry.roots)) → Tells {X = List FoundBtree} (λ bs. joined (map btree_in bs)) (trees_of (sets_in layout (as_read (now three))) (updates_of es) (last_of es).entry.roots) (Ok c.in-Ok.btrees)) c.as_slice.ensures (c.in-Ok.ensures.found told))
    (λ failed. sure_trees image layout lays session names needed entries f is agree) in
    let volume : FoundVolume = record { layout = layout; session = session; needed = needed; btrees = c.in-Ok.btrees } in
    read_is (found image) f (Ok volume) is (found_told image layout lays session names needed entries c.in-Ok.btrees trees)

pub returns-in-Ok-clause-ragged : goal.returns-in-Ok-clause-ragged
returns-in-Ok-clause-ragged g c told unfailed =
    let D = g.D.Devices in
    let old = D.state c.args.devices.now in
    let image = as_read (now old) in
    let one = D.state c.layout_of.new.devices in
    let layout = c.in_ok-layout.layout in
    let two = D.state c.session_of.new.devices in
    let session = c.in_ok-session.session in
    let three = D.state c.needed_of.new.devices in
    let r2 = only_read_then D.tells old one two c.layout_of.ensures.read c.session_of.ensures.read in
    let needed = c.in_ok-needed.needed in
    let four = D.state c.btrees_of.new.devices in
    let r3 = only_read_then D.tells old two three r2 c.needed_of.ensures.read in
    ragged_btrees layout.id image c.in-Ok.btrees
    (of_first D.tells old three four r3 c.btrees_of.ensures.read told (λ (im : Image). All (λ (b : FoundBtree). AreRagged layout.id im (flat_map values_of b.levels) b.ragged) c.in-Ok.btrees)
    (c.in-Ok.ensures.ragged told (sure_behind D.tells old three four r3 c.btrees_of.ensures.read {P = ⊥} unfailed)))

pub returns-in-Err-clause-found : goal.returns-in-Err-clause-found
returns-in-Err-clause-found g c told unfailed =
    let D = g.D.Devices in
    let old = D.state c.args.devices.now in
    let image = as_read (now old) in
    let one = D.state c.layout_of.new.devices in
    let layout = c.in_ok-layout.layout in
    let two = D.state c.session_of.new.devices in
    let session = c.in_ok-session.session in
    let three = D.state c.needed_of.new.devices in
    let r2 = only_read_then D.tells old one two c.layout_of.ensures.read c.session_of.ensures.read in
    let needed = c.in_ok-needed.needed in
    let four = D.state c.btrees_of.new.devices in
    let r3 = only_read_then D.tells old two three r2 c.needed_of.ensures.read in
    let lays = c.in_ok-layout.ensures.found told in
    let names = of_first D.tells old one two c.layout_of.ensures.read c.session_of.ensures.read told (λ (im : Image). ok_or (session_in layout im) NoEntry ≡ Ok session) (c.in_ok-session.ensures.found told) in
    let entries = of_first D.tells old two three r2 c.needed_of.ensures.read told (λ (im : Image). entries_in layout (area_of im) ≡ Ok (with_last needed)) (c.in_ok-needed.ensures.found told) in
    let trees : Tells {X = List FoundBtree} (λ bs. joined (map btree_in bs)) (trees_of (sets_in layout image) (updates_of needed) (last_of needed).entry.roots) (Err c.in-Err.fault) =
    of_first D.tells old three four r3 c.btrees_of.ensures.read told
    (λ (im : Image). (SomeFailed three.faults four.faults → AreSureTrees layout.id im (trees_of (sets_in layout im) (updates_of needed) (last_of needed).entry.roots)) → Tells {X = List FoundBtree} (λ bs. joined (map btree_in bs)) (trees_of (sets_in layout im) (updates_of needed) (last_of needed).entry.roots) (Err c.in-Err.fault))
    (subst (λ (es : List FoundEntry). (SomeFailed three.faults four.faults → AreSureTrees layout.id (as_read (now three)) (trees_of (sets_in layout (as_read (now three))) (updates_of es) (last_of es).entry.roots)) → Tells {X = List FoundBtree} (λ bs. joined (map btree_in bs)) (trees_of (sets_in layout (as_read (now three))) (updates_of es) (last_of es).entry.roots) (Err c.in-Err.fault)) c.as_slice.ensures (c.in-Err.ensures.found told))
    (λ failed. absurd (sure_behind D.tells old three four r3 c.btrees_of.ensures.read {P = ⊥} unfailed failed)) in
    subst (λ (f : MountFault). Finds {X = FoundVolume} found_of (found image) (Err f)) (sym c.mount_fault.ensures) (found_not image layout lays session names needed entries c.in-Err.fault trees)

pub returns-in-Err-clause-made_up : goal.returns-in-Err-clause-made_up
returns-in-Err-clause-made_up g c told f is agree =
    let D = g.D.Devices in
    let old = D.state c.args.devices.now in
    let image = as_read (now old) in
    let one = D.state c.layout_of.new.devices in
    let layout = c.in_ok-layout.layout in
    let two = D.state c.session_of.new.devices in
    let session = c.in_ok-session.session in
    let three = D.state c.needed_of.new.devices in
    let r2 = only_read_then D.tells old one two c.layout_of.ensures.read c.session_of.ensures.read in
    let needed = c.in_ok-needed.needed in
    let four = D.state c.btrees_of.new.devices in
    let r3 = only_read_then D.tells old two three r2 c.needed_of.ensures.read in
    let lays = c.in_ok-layout.ensures.found told in
    let names = of_first D.tells old one two c.layout_of.ensures.read c.session_of.ensures.read told (λ (im : Image). ok_or (session_in layout im) NoEntry ≡ Ok session) (c.in_ok-session.ensures.found told) in
    let entries = of_first D.tells old two three r2 c.needed_of.ensures.read told (λ (im : Image). entries_in layout (area_of im) ≡ Ok (with_last needed)) (c.in_ok-needed.ensures.found told) in
    let trees : Tells {X = List FoundBtree} (λ bs. joined (map btree_in bs)) (trees_of (sets_in layout image) (updates_of needed) (last_of needed).entry.roots) (Err c.in-Err.fault) =
    of_first D.tells old three four r3 c.btrees_of.ensures.read told
    (λ (im : Image). (SomeFailed three.faults four.faults → AreSureTrees layout.id im (trees_of (sets_in layout im) (updates_of needed) (last_of needed).entry.roots)) → Tells {X = List FoundBtree} (λ bs. joined (map btree_in bs)) (trees_of (sets_in layout im) (updates_of needed) (last_of needed).entry.roots) (Err c.in-Err.fault))
    (subst (λ (es : List FoundEntry). (SomeFailed three.faults four.faults → AreSureTrees layout.id (as_read (now three)) (trees_of (sets_in layout (as_read (now three))) (updates_of es) (last_of es).entry.roots)) → Tells {X = List FoundBtree} (λ bs. joined (map btree_in bs)) (trees_of (sets_in layout (as_read (now three))) (updates_of es) (last_of es).entry.roots) (Err c.in-Err.fault)) c.as_slice.ensures (c.in-Err.ensures.found told))
    (λ failed. sure_trees image layout lays session names needed entries f is agree) in
    read_is (found image) f (Err c.mount_fault.result) is (subst (λ (e : MountFault). Finds {X = FoundVolume} found_of (found image) (Err e)) (sym c.mount_fault.ensures) (found_not image layout lays session names needed entries c.in-Err.fault trees))

pub returns-in-Ok-clause-fits : goal.returns-in-Ok-clause-fits
returns-in-Ok-clause-fits g c =
    let D = g.D.Devices in
    let one = D.state c.layout_of.new.devices in
    let two = D.state c.session_of.new.devices in
    let three = D.state c.needed_of.new.devices in
    let four = D.state c.btrees_of.new.devices in
    let r2 = only_read_then D.tells one two three c.session_of.ensures.read c.needed_of.ensures.read in
    let r3 = only_read_then D.tells one three four r2 c.btrees_of.ensures.read in
    subst (λ (sizes : List ℕ). is_layout_of sizes c.in_ok-layout.layout ≡ true) (sym r3.sizes) c.in_ok-layout.ensures.fits

pub returns-in-Ok-clause-front : goal.returns-in-Ok-clause-front
returns-in-Ok-clause-front g c told =
    let D = g.D.Devices in
    let old = D.state c.args.devices.now in
    let image = as_read (now old) in
    let one = D.state c.layout_of.new.devices in
    let layout = c.in_ok-layout.layout in
    let two = D.state c.session_of.new.devices in
    let session = c.in_ok-session.session in
    let three = D.state c.needed_of.new.devices in
    let r2 = only_read_then D.tells old one two c.layout_of.ensures.read c.session_of.ensures.read in
    let needed = c.in_ok-needed.needed in
    record {
      layout_is = c.in_ok-layout.ensures.found told;
      session_is = of_first D.tells old one two c.layout_of.ensures.read c.session_of.ensures.read told (λ (im : Image). ok_or (session_in layout im) NoEntry ≡ Ok session) (c.in_ok-session.ensures.found told);
      entries_are = of_first D.tells old two three r2 c.needed_of.ensures.read told (λ (im : Image). entries_in layout (area_of im) ≡ Ok (with_last needed)) (c.in_ok-needed.ensures.found told);
    }

pub returns-in_err-session-clause-read : goal.returns-in_err-session-clause-read
returns-in_err-session-clause-read g c =
    let D = g.D.Devices in
    let old = D.state c.args.devices.now in
    let one = D.state c.layout_of.new.devices in
    let two = D.state c.session_of.new.devices in
    only_read_then D.tells old one two c.layout_of.ensures.read c.session_of.ensures.read

pub returns-in_err-needed-clause-read : goal.returns-in_err-needed-clause-read
returns-in_err-needed-clause-read g c =
    let D = g.D.Devices in
    let old = D.state c.args.devices.now in
    let one = D.state c.layout_of.new.devices in
    let two = D.state c.session_of.new.devices in
    let three = D.state c.needed_of.new.devices in
    let r2 = only_read_then D.tells old one two c.layout_of.ensures.read c.session_of.ensures.read in
    only_read_then D.tells old two three r2 c.needed_of.ensures.read

pub returns-in-Ok-clause-read : goal.returns-in-Ok-clause-read
returns-in-Ok-clause-read g c =
    let D = g.D.Devices in
    let old = D.state c.args.devices.now in
    let one = D.state c.layout_of.new.devices in
    let two = D.state c.session_of.new.devices in
    let three = D.state c.needed_of.new.devices in
    let r2 = only_read_then D.tells old one two c.layout_of.ensures.read c.session_of.ensures.read in
    let four = D.state c.btrees_of.new.devices in
    let r3 = only_read_then D.tells old two three r2 c.needed_of.ensures.read in
    only_read_then D.tells old three four r3 c.btrees_of.ensures.read

pub returns-in-Err-clause-read : goal.returns-in-Err-clause-read
returns-in-Err-clause-read g c =
    let D = g.D.Devices in
    let old = D.state c.args.devices.now in
    let one = D.state c.layout_of.new.devices in
    let two = D.state c.session_of.new.devices in
    let three = D.state c.needed_of.new.devices in
    let r2 = only_read_then D.tells old one two c.layout_of.ensures.read c.session_of.ensures.read in
    let four = D.state c.btrees_of.new.devices in
    let r3 = only_read_then D.tells old two three r2 c.needed_of.ensures.read in
    only_read_then D.tells old three four r3 c.btrees_of.ensures.read
