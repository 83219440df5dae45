use Rattle.std.proofs.Common.{rules, ◌≡◌, ◌+◌, ◌++◌, length, [], ◌∷◌, ap, ◌∙◌, refl}
use Rattle.std.specs.Int.{w32, w64, to_le_bytes}
use Rattle.sealed_block.specs.Blocks.{head_bytes}
use Rattle.sealed_block.proofs.Pieces.{written}
use Rattle.sealed_block.proofs.sealing.put_head.Goals as goal

pub returns-clause-widths : goal.returns-clause-widths
returns-clause-widths c = record {
  id = c.put_names.ensures.id;
  id_bytes = c.put_names.ensures.id_bytes;
  owner = c.put_numbers.ensures.owner;
  number = c.put_numbers.ensures.number;
  sequence = c.put_numbers.ensures.sequence;
  whole = search rules;
  whole_bytes = c.put-2.ensures.bytes;
}

pub returns-clause-written : goal.returns-clause-written
unfolding head_bytes
returns-clause-written c =
    let h = c.args.head.now in
    let ends_whole : 64 + length h.whole ≡ 96 = search rules in
    let size =
    c.put_numbers.ensures.written
    ∙ ap (λ names. names ++ to_le_bytes w64 h.owner ++ to_le_bytes w64 h.number ++ to_le_bytes w64 h.sequence ++ to_le_bytes w32 h.length) c.put_names.ensures.written in
    let zeros = written _ (0 ∷ 0 ∷ 0 ∷ 0 ∷ []) _ _ _ 60 64 size refl c.put.ensures.written refl in
    written _ h.whole _ _ _ 64 96 zeros refl c.put-2.ensures.written ends_whole
