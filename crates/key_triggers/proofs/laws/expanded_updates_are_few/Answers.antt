use Rattle.key_triggers.proofs.Bytes.{content_bytes, expanded_bytes, one_entry, pointers_few}
use Rattle.key_triggers.proofs.laws.expanded_updates_are_few.Goals as goal

pub returns-clause-pointers : goal.returns-clause-pointers
returns-clause-pointers c = pointers_few

pub returns-clause-bytes : goal.returns-clause-bytes
returns-clause-bytes c = expanded_bytes

pub returns-clause-content : goal.returns-clause-content
returns-clause-content c = content_bytes

pub returns-clause-entry : goal.returns-clause-entry
returns-clause-entry c = one_entry
