use Rattle.node_mem.specs.CountLaws.{length-put_at, lengths-append}
use Rattle.node_mem.proofs.laws.puts_are_counted.Goals as goal

pub returns : goal.returns
returns c = record { put = length-put_at; joined = lengths-append }
