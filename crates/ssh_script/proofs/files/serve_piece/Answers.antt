use Rattle.std.proofs.Common.{◌++◌, ◌∙◌, sym, ap}
use Rattle.std.specs.String.{string_bytes}
use Rattle.ssh_script.specs.Files.{sent_line}
use Rattle.ssh_script.proofs.FilesServed.{piece_taken}
use Rattle.ssh_script.proofs.files.serve_piece.Goals as goal

pub returns : goal.returns
returns c = λ so_far taken. piece_taken so_far c.args.piece.now c.new-out.result.items
    c.feed-fed.new.out.items (string_bytes c.args.text.now) (string_bytes c.print_sent.new.text)
    c.args.server.now c.feed-fed.new.self c.feed-fed.result taken c.new-out.ensures.items
    (sym c.is_starved.ensures ∙ c.if-is_starved.false) c.feed-fed.ensures.ok
    c.feed-fed.ensures.partial c.feed-fed.ensures.err c.feed-fed.ensures.failed
    (c.in_ok-print_sent.ensures
    ∙ ap (λ z. string_bytes c.args.text.now ++ sent_line z) c.deref.ensures.value)
