use Rattle.std.proofs.Common.{sym, ◌∙◌}
use borrow.Author.Tests.{eqb-true, eqb-false}
use Rattle.connection.specs.Ways.{first_request, first_one_way}
use Rattle.connection.proofs.first_record.Goals as goal

pub returns-then-is_request : goal.returns-then-is_request
returns-then-is_request c = first_request c.args.id.0 (eqb-true _ _ (sym c.is_request.ensures ∙ c.if-is_request.true)) c.begun_row.ensures

pub returns-else-is_request : goal.returns-else-is_request
returns-else-is_request c = first_one_way c.args.id.0 (eqb-false _ _ (sym c.is_request.ensures ∙ c.if-is_request.false)) c.begun_row-else-is_request.ensures
