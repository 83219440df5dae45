use Rattle.std.proofs.Common.{◌∙◌}
use Rattle.file_plan.proofs.Io.{ap_read, io_read, looks_stay, looks_then, nothing_read}
use Rattle.file_plan.proofs.Looked.{is_there, no_bytes, none_shows, not_there, one_shows, read_bytes, reads_none, reads_one, seen_same}
use Rattle.file_plan.proofs.blocks.shown_block.Goals as goal

pub returns-in_err-keys-clause-io : goal.returns-in_err-keys-clause-io
returns-in_err-keys-clause-io g c = nothing_read _ _ c.covering_keys.ensures.io

pub returns-in_err-pointers-clause-io : goal.returns-in_err-pointers-clause-io
returns-in_err-pointers-clause-io g c = nothing_read _ _ c.covering_keys.ensures.io

pub returns-in_default-clause-bytes : goal.returns-in_default-clause-bytes
returns-in_default-clause-bytes g c = λ keys read seen holds range.
    no_bytes keys c.args.id c.args.number c.args.block read (none_shows keys c.args.id c.args.number c.args.block _ c.in_default.is
    (c.in_ok-pointers.ensures keys c.args.number seen.is_seen.is_map seen.is_seen.ids
    (c.in_ok-keys.ensures.found keys _ seen range) range.places))

pub returns-in_default-clause-there : goal.returns-in_default-clause-there
returns-in_default-clause-there g c = λ keys seen range.
    not_there keys c.args.id c.args.number c.args.block (none_shows keys c.args.id c.args.number c.args.block _ c.in_default.is
    (c.in_ok-pointers.ensures keys c.args.number seen.is_seen.is_map seen.is_seen.ids
    (c.in_ok-keys.ensures.found keys _ seen range) range.places))

pub returns-in_default-clause-io : goal.returns-in_default-clause-io
returns-in_default-clause-io g c = nothing_read _ _ c.covering_keys.ensures.io

pub returns-in_err-block-clause-io : goal.returns-in_err-block-clause-io
returns-in_err-block-clause-io g c = nothing_read _ _ (c.in_err-block.ensures.err ∙ c.covering_keys.ensures.io)

pub returns-clause-bytes : goal.returns-clause-bytes
returns-clause-bytes g c = λ keys read seen holds range.
    let before = seen_same keys _ _ _ _ _ c.in_ok-block.ensures.looks c.in_ok-block.ensures.longest seen in
    read_bytes keys c.args.id c.args.number c.args.block read c.in-Some.pointers c.in-Some.digest c.in_ok-block.field-0 _ _ c.in_ok-block.ensures.ok holds
    (one_shows keys c.args.id c.args.number c.args.block _ c.in-Some.pointers c.in-Some.digest c.in-Some.is
    (c.in_ok-pointers.ensures keys c.args.number before.is_seen.is_map before.is_seen.ids
    (c.in_ok-keys.ensures.found keys _ before range) range.places))

pub returns-clause-there : goal.returns-clause-there
returns-clause-there g c = λ keys seen range.
    let before = seen_same keys _ _ _ _ _ c.in_ok-block.ensures.looks c.in_ok-block.ensures.longest seen in
    is_there keys c.args.id c.args.number c.args.block c.in-Some.pointers c.in-Some.digest
    (one_shows keys c.args.id c.args.number c.args.block _ c.in-Some.pointers c.in-Some.digest c.in-Some.is
    (c.in_ok-pointers.ensures keys c.args.number before.is_seen.is_map before.is_seen.ids
    (c.in_ok-keys.ensures.found keys _ before range) range.places))

pub returns-clause-io : goal.returns-clause-io
returns-clause-io g c = io_read _ _ _ (c.in_ok-block.ensures.ok ∙ ap_read _ _ _ c.covering_keys.ensures.io)

pub returns-in_default-clause-reads : goal.returns-in_default-clause-reads
returns-in_default-clause-reads g c = λ keys seen range.
    reads_none _ _ _ c.covering_keys.ensures.io (none_shows keys c.args.id c.args.number c.args.block _ c.in_default.is
    (c.in_ok-pointers.ensures keys c.args.number seen.is_seen.is_map seen.is_seen.ids
    (c.in_ok-keys.ensures.found keys _ seen range) range.places))

pub returns-clause-reads : goal.returns-clause-reads
returns-clause-reads g c = λ keys seen range.
    let before = seen_same keys _ _ _ _ _ c.in_ok-block.ensures.looks c.in_ok-block.ensures.longest seen in
    reads_one c.in-Some.pointers c.in-Some.digest c.in_ok-block.field-0 _ _ _ _ c.in_ok-block.ensures.ok c.covering_keys.ensures.io
    (one_shows keys c.args.id c.args.number c.args.block _ c.in-Some.pointers c.in-Some.digest c.in-Some.is
    (c.in_ok-pointers.ensures keys c.args.number before.is_seen.is_map before.is_seen.ids
    (c.in_ok-keys.ensures.found keys _ before range) range.places))

pub returns-in_err-block-clause-looks : goal.returns-in_err-block-clause-looks
returns-in_err-block-clause-looks g c = looks_then _ (g.V.View.made c.covering_keys.new.view) _ c.covering_keys.ensures.looks (looks_stay _ _ c.block.ensures.looks)

pub returns-clause-looks : goal.returns-clause-looks
returns-clause-looks g c = looks_then _ (g.V.View.made c.covering_keys.new.view) _ c.covering_keys.ensures.looks (looks_stay _ _ c.block.ensures.looks)
