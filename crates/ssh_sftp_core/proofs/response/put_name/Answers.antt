use Rattle.std.proofs.Common.{◌≡◌, ◌++◌, List, ℕ, ap, ◌∙◌, append_assoc}
use Rattle.std.proofs.lemmas.Result.{on_ok_weaker}
use Rattle.ssh_wire.specs.Field.{number, string}
use Rattle.ssh_sftp_core.proofs.response.put_name.Goals as goal

-- five parts, one after another
in_order : (old a b c d e : List ℕ)
    → ((((old ++ a) ++ b) ++ c) ++ d) ++ e ≡ old ++ (a ++ (b ++ (c ++ (d ++ e))))
in_order old a b c d e =
    append_assoc (((old ++ a) ++ b) ++ c) d e ∙ append_assoc ((old ++ a) ++ b) c (d ++ e)
    ∙ append_assoc (old ++ a) b (c ++ (d ++ e)) ∙ append_assoc old a (b ++ (c ++ (d ++ e)))

pub returns : goal.returns
returns c =
    let path = string c.args.path.now in
    on_ok_weaker c.put_u32-2.result (λ is. is ∙ ap (λ z. z ++ number 0)
    (c.in_ok-put_bytes-2.ensures.ok
    ∙ ap (λ z. z ++ path) (c.in_ok-put_bytes.ensures.ok ∙ ap (λ z. z ++ path)
    (c.in_ok-put_u32.ensures.ok ∙ ap (λ z. z ++ number 1) c.in_ok-put_head.ensures)))
    ∙ in_order c.args.packet.now.items _ (number 1) path path (number 0)) c.put_u32-2.ensures.ok
