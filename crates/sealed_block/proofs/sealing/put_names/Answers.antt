use Rattle.std.proofs.Common.{rules, ◌≡◌, ◌+◌, length, [], ◌∷◌, codes, refl}
use Rattle.std.specs.Int.{w16, to_le_bytes}
use Rattle.sealed_block.proofs.Pieces.{written}
use Rattle.sealed_block.proofs.sealing.put_names.Goals as goal

pub returns-clause-written : goal.returns-clause-written
returns-clause-written c =
    let h = c.args.head.now in
    let ends_id : 16 + length h.id ≡ 32 = search rules in
    let magic = written [] (codes "bvolseal") _ c.args.into.now _ 0 8 refl refl c.put.ensures.written refl in
    let marks = written _ (h.kind ∷ h.version ∷ 0 ∷ 0 ∷ []) _ _ _ 8 12 magic refl c.put-2.ensures.written refl in
    let part = written _ (to_le_bytes w16 h.part) _ _ _ 12 14 marks c.to_le_bytes.ensures c.put-3.ensures.written refl in
    let parts = written _ (to_le_bytes w16 h.parts) _ _ _ 14 16 part c.to_le_bytes-2.ensures c.put-4.ensures.written refl in
    written _ h.id _ _ _ 16 32 parts refl c.put-5.ensures.written ends_id
