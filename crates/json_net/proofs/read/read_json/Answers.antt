-- The value is the one that the crate reads.
use Rattle.std.proofs.Common.{Option, None, sym, ap, ◌∙◌, subst}
use Rattle.std.proofs.lemmas.Bool.{false≢true}
use Rattle.serde_json.specs.Data.{Data}
use Rattle.serde_json.specs.View.{view}
use Rattle.json_net.specs.Texts.{said, value_of}
use Rattle.json_net.specs.Reading.{IsRead}
use Rattle.json_net.proofs.Answered.{answers_ok, answers_at, answers_bad}
use Rattle.json_net.proofs.Bytes.{value_read, value_unread}
use Rattle.json_net.proofs.read.read_json.Goals as goal

pub returns-in-Ok : goal.returns-in-Ok
returns-in-Ok c =
    let bytes = c.args.bytes.now in
    let reads : IsRead c.network.result (said (value_of bytes)) =
    subst (λ (o : Option Data). IsRead c.network.result (said o))
    (sym (value_read bytes (view c.in-Ok.value) c.in-Ok.ensures.ok.0 c.in-Ok.ensures.ok.1)) c.network.ensures in
    record {
      ok = answers_ok bytes c.network.result reads;
      at = answers_at bytes c.network.result reads;
      bad = answers_bad bytes c.network.result reads;
      reads = reads;
    }

pub returns-in-Err-2 : goal.returns-in-Err-2
returns-in-Err-2 c =
    let bytes = c.args.bytes.now in
    let reads =
    ap said (value_unread bytes (λ text. c.in-Err.ensures.err (λ memory. false≢true (sym c.if-is_memory.false ∙ c.is_memory.ensures.1 memory)) text)) in
    record { ok = answers_ok bytes (said None) reads; at = answers_at bytes (said None) reads; bad = answers_bad bytes (said None) reads; reads = reads }
