use Rattle.std.proofs.Common.{◌+◌, sym, ap, ◌∙◌, subst}
use Rattle.std.specs.Prelude.{All}
use Rattle.inode_keys.proofs.Drawing.{counter_fits, if_drawn}
use Rattle.inode_keys.specs.Draws.{CountsOne, IfDrawn, IsNewNumber, IsNextOf, draw_at}
use Rattle.key_meaning.specs.Forest.{forest_in}
use Rattle.vol_types.specs.KeyMaps.{with_updates}
use Rattle.vol_types.specs.Standing.{IsUpdate}
use Rattle.inode_keys.proofs.numbers.next_number.Goals as goal

pub returns-clause-new : goal.returns-clause-new
returns-clause-new g c keys gives drawn =
    subst (λ draw. IfDrawn draw (λ number _. IsNewNumber keys number)) (sym (c.in_ok-draw_at.ensures ∙ ap (draw_at c.args.client) (c.in_ok-next.ensures.next keys gives))) (c.draws_are_new.ensures.new keys c.args.client drawn)

pub returns-clause-forest : goal.returns-clause-forest
returns-clause-forest g c keys read gives =
    subst (IsNextOf (forest_in keys read) c.args.client) (sym (c.in_ok-draw_at.ensures ∙ ap (draw_at c.args.client) (c.in_ok-next.ensures.next keys gives))) (c.draws_are_new.ensures.forest keys c.args.client read c.requires)

pub returns-clause-draw : goal.returns-clause-draw
returns-clause-draw g c keys gives = c.in_ok-draw_at.ensures ∙ ap (draw_at c.args.client) (c.in_ok-next.ensures.next keys gives)

pub returns-clause-counts : goal.returns-clause-counts
returns-clause-counts g c keys gives is =
    subst (λ draw. IfDrawn draw (λ _ updates. CountsOne keys (with_updates updates keys) c.args.client)) (sym (c.in_ok-draw_at.ensures ∙ ap (draw_at c.args.client) (c.in_ok-next.ensures.next keys gives)))
    (c.draws_are_counted.ensures.counts keys c.args.client c.requires is)

pub returns-clause-fits : goal.returns-clause-fits
returns-clause-fits g c =
    let next = c.in_ok-next.next in
    subst (λ draw. IfDrawn draw (λ _ updates. All IsUpdate updates)) (sym c.in_ok-draw_at.ensures) (if_drawn c.args.client next (λ _ updates. All IsUpdate updates) (λ _. counter_fits c.args.client (next + 1)))
