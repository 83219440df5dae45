use Rattle.std.proofs.Common.{◌≡◌, ◌<◌, ◌≤◌, List, ℕ, length, take, Result, Ok, Err, ap, subst, ◌∙◌}
use Rattle.std.specs.Prelude.{IfOk}
use Rattle.std.proofs.lemmas.List.Elements.{All-from_get_or}
use Rattle.vol_types.specs.Widths.{AreBytes}
use Rattle.key_codec.specs.declared.fault.KeyFault.{KeyFault}
use Rattle.key_codec.specs.declared.reading.KeyRead.{KeyRead}
use Rattle.key_codec.specs.Keys.{IsKey, encoding, key_in}
use Rattle.key_codec.specs.Reading.{Gives}
use Rattle.key_codec.specs.KeyLaws.{key_found, key_again}
use Rattle.key_codec.proofs.reading.get_key.Goals as goal

found : (bytes : List ℕ) (result : Result KeyRead KeyFault) → AreBytes bytes → Gives (λ read. read) result (key_in bytes) → IfOk result (λ read. IsKey read.pos read.value × (read.used ≤ length bytes) × (take read.used bytes ≡ encoding read.pos read.value))
found bytes (Ok read) are given = key_found bytes read are given
found bytes (Err fault) are given = tt

pub returns-clause-found : goal.returns-clause-found
returns-clause-found c =
    let are : AreBytes c.args.from.now = All-from_get_or (λ b. b < 256) c.args.from.now 0 (λ i within. (c.type_inv.from i).fits) in
    found c.args.from.now c.read_key.result are c.read_key.ensures

pub returns-clause-only : goal.returns-clause-only
returns-clause-only c = λ pos value rest is encoded. subst (λ whole. Gives (λ read. read) c.read_key.result whole) (ap key_in encoded ∙ key_again pos value rest is) c.read_key.ensures
