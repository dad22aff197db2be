use Rattle.std.proofs.Common.{◌≡◌, ◌+◌, ◌-◌, ◌*◌, ◌^◌, min, ℕ, Option, ltb, take, drop, ap, sym, ◌∙◌}
use Rattle.std.specs.Prelude.{option_map}
use Rattle.line_text.specs.Numbers.{cap}
use Rattle.vector_text.specs.declared.body.Block.{Block}
use Rattle.vector_text.specs.Written.{Body, turns_pass, total_size, greatest_size}
use Rattle.vector_text.specs.BodyInside.{block_view}
use Rattle.vector_text.proofs.BodyLemmas.{view_of, turns_size, total-split}
use Rattle.vector_text.proofs.body.Body.turns_pass.Goals as goal

pub returns-in-Some : goal.returns-in-Some
returns-in-Some c =
    let lines = c.self.inside.schedule in
    let block = c.in-Some.block in
    let open_block = c.self.invariant.open_block block c.in-Some.is in
    let front = total_size (take block.first lines) in
    let turn = total_size (drop block.first lines) in
    let size : c.size.result ≡ cap (front + turn) = c.size.ensures ∙ ap cap (total-split block.first lines) in
    let sum : c.saturating_add.result ≡ min (block.size + min (block.repeat.count * (c.size.result - block.size)) (2 ^ 64 - 1)) (2 ^ 64 - 1)
    = c.saturating_add.ensures ∙ ap (λ (n : ℕ). min (block.size + n) (2 ^ 64 - 1)) c.saturating_mul-turns.ensures in
    ap (ltb greatest_size) sum
    ∙ turns_size front turn block.repeat.count block.size c.size.result open_block.some open_block.size size
    ∙ ap (λ (o : Option Block). turns_pass (view_of lines o c.self.inside.end) (option_map (block_view lines) o)) (sym c.in-Some.is)
    ∙ ap (λ (b : Body). turns_pass b b.block) c.self.view_is
