-- `resaving::put_text` meets its contract: no more bytes are counted than the input has.
use native.Mathlib.Omega.{arith}
use Rattle.lists.proofs.Cuts.{take_counted}
use Rattle.resaving.proofs.ResavedTexts.{resaved-counted}
use Rattle.resaving.proofs.put_text.Goals as goal

pub returns : goal.returns
returns c =
    let input = c.args.input.now in
    record {
      written = rw (take_counted input c.args.count c.min-length.result (omega arith)) at c.put_file_text.ensures;
      input_value = λ h. resaved-counted c.args.count input h (omega arith);
    }
