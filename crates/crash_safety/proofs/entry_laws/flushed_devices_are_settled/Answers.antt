use Rattle.std.proofs.Common.{List, ap, subst, sym}
use Rattle.dev_model.specs.Disk.{Disk}
use Rattle.dev_model.specs.FrameLaws.{stay_now}
use Rattle.vol_types.specs.declared.pointers.Place.{Place}
use Rattle.crash_safety.proofs.Flushing.{flags_set, flushed_settled}
use Rattle.crash_safety.proofs.Settled.{settled_at_rest, settled_beside, settled_quiet}
use Rattle.crash_safety.specs.Elsewhere.{IsAtOneOf, IsOneOf}
use Rattle.crash_safety.specs.Flushes.{AreFlushed}
use Rattle.crash_safety.proofs.entry_laws.flushed_devices_are_settled.Goals as goal

pub returns : goal.returns
returns c = record {
  begins = λ mirrors flags disks quiet dev mirror flag. settled_quiet disks quiet dev;
  writes = flags_set;
  elsewhere = λ mirrors flags more old new places settled call keeps dev mirror flag.
      let kept = keeps dev flag in
      settled_beside (IsOneOf places) (IsAtOneOf places) old new dev call
      (λ block one. kept.1 one.0 (record { dev = dev; block = block }) one.1 (ap (λ (place : Place). place.dev) one.2)) (settled dev mirror kept.0);
  flushes = flushed_settled;
  reads = λ mirrors flags old new settled stay. subst (λ (disks : List Disk). AreFlushed mirrors flags disks) (sym (stay_now old new stay)) settled;
  settled = λ mirrors flags disks settled clear dev mirror. settled dev mirror (clear dev mirror);
  rest = λ mirrors disks rest dev mirror. settled_at_rest disks dev (λ disk there. rest dev disk mirror there);
}
