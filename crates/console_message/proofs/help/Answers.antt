use Rattle.std.proofs.Common.{ℕ, List, Bor, ◌<◌, ◌∙◌, ◌++◌, [], ap, get_or, arith}
use native.Mathlib.Nat.{min-le_right}
use lib.ListN.{get_or-map}
use Rattle.std.proofs.lemmas.List.{get_or_default}
use Rattle.text_print.specs.Text.{line}
use Rattle.console_message.specs.Phrases.{help_of, calls, bench}
use Rattle.console_message.proofs.help.Goals as goal

pub returns : goal.returns
unfolding help_of
returns c =
    let below : c.min.result < 17 = omega (arith, min-le_right c.args.n 16, c.min.ensures) in
    rw (c.of.ensures, ← get_or-map (λ (b : Bor (List ℕ)). b.now))
    (ap line (get_or_default (calls ++ bench) c.min.result _ [] below ∙ ap (λ i. get_or (calls ++ bench) i []) c.min.ensures))
