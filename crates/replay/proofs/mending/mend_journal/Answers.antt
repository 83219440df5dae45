use Rattle.std.proofs.Common.{◌≡◌, ◌∙◌, arith, length, refl, subst, sym}
use Rattle.dev_model.specs.Devices.{now}
use Rattle.dev_model.specs.Disk.{as_read}
use Rattle.dev_model.specs.FrameLaws.{go_on_here, go_on_then}
use Rattle.geometry.specs.Mirrors.{AreAtRest}
use Rattle.vol_types.specs.declared.layout.Layout.{Layout}
use Rattle.image_reader.specs.Answers.{WasWhole}
use Rattle.replay.specs.Mending.{BringsNoBlock, HasMended}
use Rattle.replay.proofs.MendedEntry.{MendLaws, keeps_more, mended_more, mended_none}
use Rattle.replay.proofs.MendedMeaning.{journal_here, journal_more, keeps_meaning}
use Rattle.replay.proofs.mending.mend_journal.Goals as goal

pub loop-index-init : goal.loop-index-init
loop-index-init g c =
    let D = g.D.Devices in
    let state = D.state c.args.devices.now in
    record {
      mended = λ tells f on layouts needs. mended_none f state on;
      journal = λ tells quiet. journal_here c.args.layout.now state quiet;
      quiet = λ tells quiet. quiet;
      goes_on = go_on_here state;
      faults = refl;
    }

pub mend_entry-requires-clause-whole : goal.mend_entry-requires-clause-whole
mend_entry-requires-clause-whole g c =
    subst (WasWhole c.args.layout.now) (sym c.index-needed-index.is) (c.requires.whole c.loop-index.index c.index-needed-index.result c.loop-index-test.true)

pub returns-in_err-mend_entry-clause-keeps : goal.returns-in_err-mend_entry-clause-keeps
returns-in_err-mend_entry-clause-keeps g c tells f on layouts needs =
    let D = g.D.Devices in
    let laws : MendLaws = record {
      again = c.mending_changes_nothing.ensures.found;
      in_order = c.mending_changes_nothing.ensures.in_order;
      whole = c.mending_changes_nothing.ensures.whole;
      apart = c.mending_changes_nothing.ensures.apart;
      made = c.whole_entries_are_made_of_blocks.ensures;
      sealed = c.mended_entries_stay_whole.ensures.sealed;
      same = c.mended_entries_stay_whole.ensures.one;
      places = c.mended_entries_stay_whole.ensures.places;
      few_parts = λ block h is. (c.opened_blocks_are_sealed.ensures block h is).ranges.parts;
      own_places = c.parts_have_own_places.ensures;
    } in
    keeps_more laws f c.args.layout.now c.args.needed.now layouts needs c.loop-index.index c.loop-index-test.true c.index-needed-index.result c.index-needed-index.is
    (D.state c.args.devices.now) (D.state c.loop-index.devices) (D.state c.mend_entry.new.devices) c.loop-index.invariant.goes_on.later (c.loop-index.invariant.mended tells f on layouts needs)
    (g.met.D.Devices.sound tells c.loop-index.devices) (g.met.D.Devices.steady tells c.mend_entry.new.devices) (c.mend_entry.ensures.mends tells)

pub returns-in_err-mend_entry-clause-elsewhere : goal.returns-in_err-mend_entry-clause-elsewhere
returns-in_err-mend_entry-clause-elsewhere g c tells quiet =
    let D = g.D.Devices in
    journal_more c.whole_entries_are_made_of_blocks.ensures c.mended_entries_stay_whole.ensures.sealed c.args.layout.now (D.state c.args.devices.now).sizes c.requires.layout c.index-needed-index.result
    (subst (WasWhole c.args.layout.now) (sym c.index-needed-index.is) (c.requires.whole c.loop-index.index c.index-needed-index.result c.loop-index-test.true))
    (D.state c.args.devices.now) (D.state c.loop-index.devices) (D.state c.mend_entry.new.devices) (c.loop-index.invariant.journal tells quiet) (c.loop-index.invariant.quiet tells quiet)
    (g.met.D.Devices.sound tells c.loop-index.devices) (c.mend_entry.ensures.mends tells)

pub returns-in_err-mend_entry-clause-means : goal.returns-in_err-mend_entry-clause-means
returns-in_err-mend_entry-clause-means g c tells f on layouts needs =
    let D = g.D.Devices in
    let laws : MendLaws = record {
      again = c.mending_changes_nothing.ensures.found;
      in_order = c.mending_changes_nothing.ensures.in_order;
      whole = c.mending_changes_nothing.ensures.whole;
      apart = c.mending_changes_nothing.ensures.apart;
      made = c.whole_entries_are_made_of_blocks.ensures;
      sealed = c.mended_entries_stay_whole.ensures.sealed;
      same = c.mended_entries_stay_whole.ensures.one;
      places = c.mended_entries_stay_whole.ensures.places;
      few_parts = λ block h is. (c.opened_blocks_are_sealed.ensures block h is).ranges.parts;
      own_places = c.parts_have_own_places.ensures;
    } in
    let quiet = on.on.quiet in
    let changes =
    journal_more c.whole_entries_are_made_of_blocks.ensures c.mended_entries_stay_whole.ensures.sealed c.args.layout.now (D.state c.args.devices.now).sizes c.requires.layout c.index-needed-index.result
    (subst (WasWhole c.args.layout.now) (sym c.index-needed-index.is) (c.requires.whole c.loop-index.index c.index-needed-index.result c.loop-index-test.true))
    (D.state c.args.devices.now) (D.state c.loop-index.devices) (D.state c.mend_entry.new.devices) (c.loop-index.invariant.journal tells quiet) (c.loop-index.invariant.quiet tells quiet)
    (g.met.D.Devices.sound tells c.loop-index.devices) (c.mend_entry.ensures.mends tells) in
    keeps_meaning f c.args.layout.now (D.state c.args.devices.now) (D.state c.mend_entry.new.devices) layouts on
    (keeps_more laws f c.args.layout.now c.args.needed.now layouts needs c.loop-index.index c.loop-index-test.true c.index-needed-index.result c.index-needed-index.is
    (D.state c.args.devices.now) (D.state c.loop-index.devices) (D.state c.mend_entry.new.devices) c.loop-index.invariant.goes_on.later (c.loop-index.invariant.mended tells f on layouts needs)
    (g.met.D.Devices.sound tells c.loop-index.devices) (g.met.D.Devices.steady tells c.mend_entry.new.devices) (c.mend_entry.ensures.mends tells))
    changes

pub loop-index-preserved : goal.loop-index-preserved
loop-index-preserved g c =
    let D = g.D.Devices in
    let laws : MendLaws = record {
      again = c.mending_changes_nothing.ensures.found;
      in_order = c.mending_changes_nothing.ensures.in_order;
      whole = c.mending_changes_nothing.ensures.whole;
      apart = c.mending_changes_nothing.ensures.apart;
      made = c.whole_entries_are_made_of_blocks.ensures;
      sealed = c.mended_entries_stay_whole.ensures.sealed;
      same = c.mended_entries_stay_whole.ensures.one;
      places = c.mended_entries_stay_whole.ensures.places;
      few_parts = λ block h is. (c.opened_blocks_are_sealed.ensures block h is).ranges.parts;
      own_places = c.parts_have_own_places.ensures;
    } in
    record {
      mended = λ tells f on layouts needs.
          let so_far = c.loop-index.invariant.mended tells f on layouts needs in
          let rest_mid = subst (λ (l : Layout). AreAtRest l.metadata_replicas (now (D.state c.loop-index.devices))) layouts so_far.mended.found_on.rest in
          let rest_new = c.in_ok-mend_entry.ensures.rest tells rest_mid in
          mended_more laws f c.args.layout.now c.args.needed.now layouts needs c.loop-index.index c.loop-index-test.true c.index-needed-index.result c.index-needed-index.is
          (D.state c.args.devices.now) (D.state c.loop-index.devices) (D.state c.mend_entry.new.devices) c.loop-index.invariant.goes_on.later so_far
          (g.met.D.Devices.sound tells c.loop-index.devices) (g.met.D.Devices.steady tells c.mend_entry.new.devices) (c.mend_entry.ensures.mends tells)
          (g.met.D.Devices.sound tells c.mend_entry.new.devices) (c.in_ok-mend_entry.ensures.quiet tells so_far.mended.found_on.on.quiet)
          (subst (λ (l : Layout). AreAtRest l.metadata_replicas (now (D.state c.mend_entry.new.devices))) (sym layouts) rest_new) (c.in_ok-mend_entry.ensures.held tells);
      journal = λ tells quiet. journal_more c.whole_entries_are_made_of_blocks.ensures c.mended_entries_stay_whole.ensures.sealed c.args.layout.now (D.state c.args.devices.now).sizes c.requires.layout c.index-needed-index.result
          (subst (WasWhole c.args.layout.now) (sym c.index-needed-index.is) (c.requires.whole c.loop-index.index c.index-needed-index.result c.loop-index-test.true))
          (D.state c.args.devices.now) (D.state c.loop-index.devices) (D.state c.mend_entry.new.devices) (c.loop-index.invariant.journal tells quiet) (c.loop-index.invariant.quiet tells quiet)
          (g.met.D.Devices.sound tells c.loop-index.devices) (c.mend_entry.ensures.mends tells);
      quiet = λ tells quiet. c.in_ok-mend_entry.ensures.quiet tells (c.loop-index.invariant.quiet tells quiet);
      goes_on = go_on_then (D.state c.args.devices.now) (D.state c.loop-index.devices) (D.state c.mend_entry.new.devices) c.loop-index.invariant.goes_on c.mend_entry.ensures.goes_on;
      faults = c.in_ok-mend_entry.ensures.cause ∙ c.loop-index.invariant.faults;
    }

pub returns-clause-keeps : goal.returns-clause-keeps
returns-clause-keeps g c tells f on layouts needs = (c.loop-index.invariant.mended tells f on layouts needs).keeps

pub returns-clause-elsewhere : goal.returns-clause-elsewhere
returns-clause-elsewhere g c tells quiet = c.loop-index.invariant.journal tells quiet

pub returns-clause-means : goal.returns-clause-means
returns-clause-means g c tells f on layouts needs =
    let D = g.D.Devices in
    keeps_meaning f c.args.layout.now (D.state c.args.devices.now) (D.state c.loop-index.devices) layouts on
    (c.loop-index.invariant.mended tells f on layouts needs).keeps (c.loop-index.invariant.journal tells on.on.quiet)

pub returns-clause-mended : goal.returns-clause-mended
returns-clause-mended g c tells f on layouts needs =
    let D = g.D.Devices in
    subst (λ n. HasMended f n (now (D.state c.loop-index.devices))) (let e : c.loop-index.index ≡ length c.args.needed.now = omega (arith, c.loop-index-test.false, c.loop-index.auto.index-end) in e) (c.loop-index.invariant.mended tells f on layouts needs).mended

pub returns-clause-no_block : goal.returns-clause-no_block
returns-clause-no_block g c tells f on layouts needs =
    let D = g.D.Devices in
    subst (λ (l : Layout). BringsNoBlock l (as_read (now (D.state c.args.devices.now))) (as_read (now (D.state c.loop-index.devices)))) layouts (c.loop-index.invariant.mended tells f on layouts needs).no_block

pub returns-in_err-mend_entry-clause-goes_on : goal.returns-in_err-mend_entry-clause-goes_on
returns-in_err-mend_entry-clause-goes_on g c =
    let D = g.D.Devices in
    go_on_then (D.state c.args.devices.now) (D.state c.loop-index.devices) (D.state c.mend_entry.new.devices) c.loop-index.invariant.goes_on c.mend_entry.ensures.goes_on
