-- `fields::classes` makes a table that is right: the rule of the table, by one test of all its entries, which is computed. Assumes nothing.
use Rattle.rules.specs.Text.{ascii, between, is_one_of}
use Rattle.rules.specs.Classes.{is_digit, is_capital, is_small, is_mark, is_token, is_name, is_value, is_blank}
use Rattle.fields.specs.Table.{right, each_from, all_right}
use Rattle.fields.proofs.classes.Goals as goal

pub invariant_of-result : goal.invariant_of-result
unfolding right each_from all_right ascii between is_one_of is_digit is_capital is_small is_mark is_token is_name is_value is_blank
invariant_of-result c = record { right = tt }
