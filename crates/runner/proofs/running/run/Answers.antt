use Rattle.std.proofs.Common.{◌++◌, string_bytes, ap, ◌∙◌, rules}
use Rattle.runner.proofs.Once.{one_print}
use Rattle.runner.proofs.Playing.{prints}
use Rattle.runner.proofs.Promised.{promise_stands, recounts_stand}
use Rattle.runner.proofs.running.run.Goals as goal

pub returns-in_err-last_line : goal.returns-in_err-last_line
returns-in_err-last_line g c =
    record {
      prints = search rules;
      one = one_print;
      promise = promise_stands;
      tells = recounts_stand;
    }

pub returns-in_err-push_str : goal.returns-in_err-push_str
returns-in_err-push_str g c =
    record {
      prints = search rules;
      one = one_print;
      promise = promise_stands;
      tells = recounts_stand;
    }

pub returns : goal.returns
returns g c =
    let told = string_bytes c.play-end.new.out in
    let last = string_bytes c.in_ok-last_line.field-0 in
    record {
      prints =
          prints g.M.Memory.meaning c.args.text.now (string_bytes c.new-out.result) told _ last
          c.play-end.result c.new-out.ensures.bytes c.play-end.ensures
          c.in_ok-last_line.ensures
          (c.in_ok-push_str.ensures.bytes ∙ ap (λ l. told ++ l) c.as_str.ensures.value);
      one = one_print;
      promise = promise_stands;
      tells = recounts_stand;
    }
