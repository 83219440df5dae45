use Rattle.std.proofs.Common.{◌≡◌, ◌∙◌, List, Ok, Err, ap, subst}
use Rattle.std.specs.Prelude.{IfSome}
use Rattle.vol_types.specs.declared.pointers.Place.{Place}
use Rattle.dev_model.specs.Devices.{now}
use Rattle.dev_model.specs.Disk.{as_read, block_at}
use Rattle.node_store.specs.declared.contents.Content.{Content}
use Rattle.node_store.specs.declared.fault.SetFault.{SetFault}
use Rattle.node_store.specs.Answers.{AreSeenFrom, Gives, LackNoMore}
use Rattle.node_store.specs.Copies.{copies_at}
use Rattle.node_store.specs.FailedReads.{IsUnreadAt, read_from}
use Rattle.node_store.specs.NodeContents.{content_in, wanted_of}
use Rattle.node_store.specs.StoredSets.{Copies}
use Rattle.node_store.proofs.BadWithin.{bad_within}
use Rattle.node_store.proofs.NodeAnswers.{answer_read, content_of_code}
use Rattle.node_store.proofs.reading.read_node.Goals as goal

pub returns-in-Ok-clause-found : goal.returns-in-Ok-clause-found
returns-in-Ok-clause-found g c tells =
    let D = g.D.Devices in
    let old = D.state c.args.devices.now in
    let new = D.state c.see_copies.new.devices in
    let seen = c.in_ok-seen.seen in
    let read = block_at (as_read (now old)) in
    let ptr = c.args.ptr.now in
    let wanted = wanted_of c.args.btree c.args.least.now c.args.greatest.now ptr in
    answer_read old.faults new.faults c.args.layout.now.id wanted ptr (copies_at read ptr.places) seen.copies seen.unread
    (λ none. c.in_ok-seen.ensures.all tells none ∙ ap (copies_at read) c.as_slice.ensures) c.in_ok-seen.ensures.cause
    (subst (λ (ps : List Place). AreSeenFrom (read_from seen.unread) (copies_at read ps) seen.copies) c.as_slice.ensures (c.in_ok-seen.ensures.shown tells))
    (subst (λ (ps : List Place). IfSome seen.unread (IsUnreadAt ps seen.copies)) c.as_slice.ensures c.in_ok-seen.ensures.unread)
    (subst (λ (ps : List Place). LackNoMore old.faults new.faults ps (copies_at read ps) seen.copies) c.as_slice.ensures (c.in_ok-seen.ensures.few tells))
    c.in-Ok.content c.judge_content.result
    (subst (λ (cs : Copies). content_in cs c.args.layout.now.id wanted ≡ Ok (content_of_code c.in-Ok.content)) c.as_slice-2.ensures c.in-Ok.ensures.content)
    c.judge_content.ensures.read c.judge_content.ensures.ragged c.judge_content.ensures.whole c.judge_content.ensures.device

pub fault_at-requires-clause-block : goal.fault_at-requires-clause-block
fault_at-requires-clause-block g c =
    let wanted = wanted_of c.args.btree c.args.least.now c.args.greatest.now c.args.ptr.now in
    let copies = c.as_slice-2.result.now in
    let id = c.args.layout.now.id in
    let bad : content_in copies id wanted ≡ Err c.in-Err-BadBlock.n =
    subst (λ (f : SetFault). Gives (λ (content : Content). content_of_code content) (Err f) (content_in copies id wanted)) c.in-Err-BadBlock.field-0-is c.in-Err-BadBlock.ensures.content in
    bad_within copies id wanted c.in-Err-BadBlock.n bad
