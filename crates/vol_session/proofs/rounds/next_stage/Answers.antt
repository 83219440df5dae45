use Rattle.std.proofs.Common.{rules, ◌≡◌, ◌∙◌, sym, ap, inl, inr, Ok}
use Rattle.std.specs.Prelude.{◌≢◌}
use Rattle.core_volume.specs.Volumes.{node_stage_of, stage_of}
use Rattle.journal_writer.specs.declared.stage.Stage.TheVariants.{Rest}
use Rattle.vol_session.proofs.ComposedWorks.{goes_then}
use Rattle.vol_session.proofs.rounds.next_stage.Goals as goal

pub returns-then-ne-clause-next : goal.returns-then-ne-clause-next
returns-then-ne-clause-next g c =
    let some : c.ask-stage.result.0 ≢ Rest = search rules in
    inl (ap stage_of c.ask-stage.ensures.volume ∙ sym c.ask-stage.ensures.stage, some)

pub returns-then-ne-clause-volume : goal.returns-then-ne-clause-volume
returns-then-ne-clause-volume g c = c.ask-stage.ensures.volume

pub returns-then-ne-clause-goes : goal.returns-then-ne-clause-goes
returns-then-ne-clause-goes g c = c.ask-stage.ensures.goes

pub returns-clause-next : goal.returns-clause-next
returns-clause-next g c =
    let rests : c.ask-stage.result.0 ≡ Rest = search rules in
    inr (ap stage_of (c.ask-stage-2.ensures.volume ∙ c.ask-stage.ensures.volume) ∙ sym c.ask-stage.ensures.stage ∙ rests, ap node_stage_of c.ask-stage-2.ensures.volume ∙ sym c.ask-stage-2.ensures.stage)

pub returns-clause-volume : goal.returns-clause-volume
returns-clause-volume g c = c.ask-stage-2.ensures.volume ∙ c.ask-stage.ensures.volume

pub returns-clause-goes : goal.returns-clause-goes
returns-clause-goes g c = goes_then c.args.client g.D.Devices.state (Ok tt) c.args.session.now c.ask-stage.new.session c.ask-stage-2.new.session c.ask-stage.ensures.goes c.ask-stage-2.ensures.goes
