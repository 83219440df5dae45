-- What frozen leaves are once they are put in place.
use Rattle.node_writeback.proofs.Placed.{frozen-exchanges, frozen-leaves, frozen-least, frozen-marked, frozen-may, frozen-other_pins, frozen-others, frozen-pins, frozen-roots}
use Rattle.node_writeback.proofs.laws.leaves_are_put_in_place.Goals as goal

pub returns-clause-exchanges : goal.returns-clause-exchanges
returns-clause-exchanges c = frozen-exchanges

pub returns-clause-of_roots : goal.returns-clause-of_roots
returns-clause-of_roots c = frozen-roots

pub returns-clause-may_move : goal.returns-clause-may_move
returns-clause-may_move c = λ nodes pins marks frozen. frozen-may nodes pins marks frozen c.moved_roots_are_marked.ensures.alone

pub returns-clause-leaves : goal.returns-clause-leaves
returns-clause-leaves c = frozen-leaves

pub returns-clause-others : goal.returns-clause-others
returns-clause-others c = frozen-others

pub returns-clause-pins : goal.returns-clause-pins
returns-clause-pins c = frozen-pins

pub returns-clause-other_pins : goal.returns-clause-other_pins
returns-clause-other_pins c = frozen-other_pins

pub returns-clause-least : goal.returns-clause-least
returns-clause-least c = frozen-least

pub returns-clause-marked : goal.returns-clause-marked
returns-clause-marked c = frozen-marked c.moved_roots_are_marked.ensures.moved
