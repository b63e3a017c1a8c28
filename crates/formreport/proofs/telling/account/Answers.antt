use Rattle.std.proofs.Common.{◌++◌, string_bytes, ap, ◌∙◌}
use Rattle.formreport.proofs.Told.{accounts}
use Rattle.formreport.proofs.telling.account.Goals as goal

pub returns : goal.returns
returns c =
    let told = string_bytes c.tell-end.new.out in
    let last = string_bytes c.in_ok-verdict.field-0 in
    accounts c.args.text.now (string_bytes c.new-out.result) told _ last c.tell-end.result
    c.new-out.ensures.bytes c.tell-end.ensures c.in_ok-verdict.ensures
    (c.in_ok-push_str.ensures.bytes ∙ ap (λ l. told ++ l) c.as_str.ensures.value)
