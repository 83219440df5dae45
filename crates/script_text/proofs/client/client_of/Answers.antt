use Rattle.script_text.proofs.Behind.{if_none}
use Rattle.script_text.proofs.Numbers.{no_client_number, no_such_client}
use Rattle.script_text.proofs.client.client_of.Goals as goal

pub returns-in_err-client-clause-none : goal.returns-in_err-client-clause-none
returns-in_err-client-clause-none c = if_none c.from_residual.result c.from_residual.ensures (no_client_number c.args.number.now c.in_err-client.ensures.none)

pub returns-else-client-lt-CLIENTS-clause-none : goal.returns-else-client-lt-CLIENTS-clause-none
returns-else-client-lt-CLIENTS-clause-none c = no_such_client c.args.number.now c.in_ok-client.client c.in_ok-client.ensures.found c.if-client-lt-CLIENTS.false
