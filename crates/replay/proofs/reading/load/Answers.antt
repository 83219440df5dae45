use Rattle.std.proofs.Common.{◌≡◌, All, true}
use Rattle.dev_model.specs.Devices.{now}
use Rattle.dev_model.specs.Disk.{as_read}
use Rattle.geometry.specs.Layouts.{is_layout_of}
use Rattle.image_reader.specs.Answers.{IsFront, WasWhole}
use Rattle.replay.proofs.LoadedFront.{handed_on}
use Rattle.replay.proofs.Loading.{AreFound, answer_is, made_up_is, ragged_is}
use Rattle.replay.proofs.reading.load.Goals as goal

pub returns-clause-found : goal.returns-clause-found
returns-clause-found g c tells none =
    let image = as_read (now (g.D.Devices.state c.args.devices.now)) in
    let law = c.found_btrees_are_a_key_map.ensures in
    let are : AreFound image = record { trees = law.trees image; newest = law.newest image; births = law.births image } in
    answer_is c.in_ok-read.read c.with_map.result c.with_map.ensures.found c.with_map.ensures.err image are (c.in_ok-read.ensures.found tells none)

pub returns-clause-made_up : goal.returns-clause-made_up
returns-clause-made_up g c tells f is agree =
    let image = as_read (now (g.D.Devices.state c.args.devices.now)) in
    let law = c.found_btrees_are_a_key_map.ensures in
    let are : AreFound image = record { trees = law.trees image; newest = law.newest image; births = law.births image } in
    made_up_is c.in_ok-read.read c.with_map.result c.with_map.ensures.found c.with_map.ensures.err image f are is (c.in_ok-read.ensures.made_up tells f is agree)

pub returns-clause-ragged : goal.returns-clause-ragged
returns-clause-ragged g c tells none =
    let image = as_read (now (g.D.Devices.state c.args.devices.now)) in
    ragged_is c.in_ok-read.read c.with_map.result c.with_map.ensures.found c.with_map.ensures.err image c.with_map.ensures.ragged (c.in_ok-read.ensures.ragged tells none)

pub returns-clause-fits : goal.returns-clause-fits
returns-clause-fits g c =
    let sizes = (g.D.Devices.state c.read_plain.new.devices).sizes in
    handed_on c.in_ok-read.read c.with_map.result c.with_map.ensures.found (λ layout session needed. is_layout_of sizes layout ≡ true) c.in_ok-read.ensures.fits

pub returns-clause-whole : goal.returns-clause-whole
returns-clause-whole g c =
    handed_on c.in_ok-read.read c.with_map.result c.with_map.ensures.found (λ layout session needed. All (WasWhole layout) needed) c.in_ok-read.ensures.whole

pub returns-clause-front : goal.returns-clause-front
returns-clause-front g c tells =
    let image = as_read (now (g.D.Devices.state c.args.devices.now)) in
    handed_on c.in_ok-read.read c.with_map.result c.with_map.ensures.found (λ layout session needed. IsFront image layout session needed) (c.in_ok-read.ensures.front tells)
