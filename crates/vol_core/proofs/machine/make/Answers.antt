use Rattle.std.proofs.Common.{◌≡◌, true, sym, subst}
use Rattle.core_actors.specs.declared.event.Event.{Event}
use Rattle.dev_model.specs.FrameLaws.{go_on_here}
use Rattle.geometry.specs.Layouts.{is_layout_of}
use Rattle.vol_types.specs.declared.layout.Layout.{Layout}
use Rattle.vol_core.specs.Cores.{StepGives}
use Rattle.vol_core.proofs.Going.{entry_goes_on, flush_goes_on, set_goes_on}
use Rattle.vol_core.proofs.Remembered.{StaysBut, entry_stays, event_stays, flush_stays, set_stays, step_gives}
use Rattle.vol_core.proofs.machine.make.Goals as goal

pub returns-in-WriteEntry : goal.returns-in-WriteEntry
returns-in-WriteEntry g c =
    let stays : StaysBut c.args.actor c.args.memory.now c.write_entry.new.self =
    entry_stays c.args.memory.now c.args.actor c.write_entry.new.self (g.D.Devices.state c.write_entry.new.devices).moment c.write_entry.result c.write_entry.ensures.gives in
    let goes_on = entry_goes_on (g.D.Devices.state c.args.devices.now) (g.D.Devices.state c.write_entry.new.devices) g.D.Devices.tells c.args.memory.now.volume.writer.ring c.write_entry.result c.write_entry.ensures.devices in
    record {
      gives = subst (λ (event : Event). StepGives g.D.Devices.tells g.D.Devices.state (record { memory = c.args.memory.now; devices = c.args.devices.now }) c.args.actor event c.write_entry.result (record { memory = c.write_entry.new.self; devices = c.write_entry.new.devices }))
          (sym c.in-WriteEntry.is) (c.write_entry.ensures.gives, c.write_entry.ensures.devices);
      layout = subst (λ (layout : Layout). is_layout_of (g.D.Devices.state c.write_entry.new.devices).sizes layout ≡ true) (sym stays.layout)
          (subst (λ sizes. is_layout_of sizes c.args.memory.now.volume.layout ≡ true) (sym goes_on.sizes) c.requires.layout);
      goes_on = goes_on;
      others = stays.others;
    }

pub returns-in-Flush : goal.returns-in-Flush
returns-in-Flush g c =
    let stays : StaysBut c.args.actor c.args.memory.now c.flush_device.new.self =
    flush_stays c.args.memory.now c.args.actor c.flush_device.new.self c.in-Flush.dev (g.D.Devices.state c.flush_device.new.devices).moment c.flush_device.result c.flush_device.ensures.gives in
    record {
      gives = subst (λ (event : Event). StepGives g.D.Devices.tells g.D.Devices.state (record { memory = c.args.memory.now; devices = c.args.devices.now }) c.args.actor event c.flush_device.result (record { memory = c.flush_device.new.self; devices = c.flush_device.new.devices }))
          (sym c.in-Flush.is) (c.flush_device.ensures.gives, c.flush_device.ensures.devices);
      layout = subst (λ (layout : Layout). is_layout_of (g.D.Devices.state c.flush_device.new.devices).sizes layout ≡ true) (sym stays.layout)
          (subst (λ sizes. is_layout_of sizes c.args.memory.now.volume.layout ≡ true) (sym c.flush_device.ensures.sizes) c.requires.layout);
      goes_on = flush_goes_on (g.D.Devices.state c.args.devices.now) (g.D.Devices.state c.flush_device.new.devices) g.D.Devices.tells c.in-Flush.dev c.flush_device.result c.flush_device.ensures.sizes c.flush_device.ensures.devices;
      others = stays.others;
    }

pub returns-in-WriteSet : goal.returns-in-WriteSet
returns-in-WriteSet g c =
    let stays : StaysBut c.args.actor c.args.memory.now c.write_set.new.self =
    set_stays c.args.memory.now c.args.actor c.write_set.new.self c.in-WriteSet.node (g.D.Devices.state c.write_set.new.devices).moment c.write_set.result c.write_set.ensures.gives in
    let goes_on = set_goes_on (g.D.Devices.state c.args.devices.now) (g.D.Devices.state c.write_set.new.devices) g.D.Devices.tells c.args.memory.now.volume.work.unfinished c.write_set.result c.write_set.ensures.devices in
    record {
      gives = subst (λ (event : Event). StepGives g.D.Devices.tells g.D.Devices.state (record { memory = c.args.memory.now; devices = c.args.devices.now }) c.args.actor event c.write_set.result (record { memory = c.write_set.new.self; devices = c.write_set.new.devices }))
          (sym c.in-WriteSet.is) (c.write_set.ensures.gives, c.write_set.ensures.devices);
      layout = subst (λ (layout : Layout). is_layout_of (g.D.Devices.state c.write_set.new.devices).sizes layout ≡ true) (sym stays.layout)
          (subst (λ sizes. is_layout_of sizes c.args.memory.now.volume.layout ≡ true) (sym goes_on.sizes) c.requires.layout);
      goes_on = goes_on;
      others = stays.others;
    }

pub returns-in_default : goal.returns-in_default
returns-in_default g c =
    let stays : StaysBut c.args.actor c.args.memory.now c.step.new.self =
    event_stays c.args.memory.now c.args.actor c.step.new.self c.args.event c.step.result c.in_default.not-WriteSet c.in_default.not-Flush c.in_default.not-WriteEntry c.step.ensures in
    record {
      gives = step_gives g.D.Devices.tells g.D.Devices.state (record { memory = c.args.memory.now; devices = c.args.devices.now }) c.args.actor c.step.new.self c.args.event c.step.result
          c.in_default.not-WriteSet c.in_default.not-Flush c.in_default.not-WriteEntry c.step.ensures;
      goes_on = go_on_here (g.D.Devices.state c.args.devices.now);
      layout = subst (λ (layout : Layout). is_layout_of (g.D.Devices.state c.args.devices.now).sizes layout ≡ true) (sym stays.layout) c.requires.layout;
      others = stays.others;
    }
