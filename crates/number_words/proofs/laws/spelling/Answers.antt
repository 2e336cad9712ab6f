use Rattle.number_words.proofs.Costs.{micro_text-spelled_cost, is_cost-micro_text, is_plain_cost-micro_text, spelled_cost-micro_text}
use Rattle.number_words.proofs.Lines.{words_of_line-spaced, is_word-number_text, is_word-micro_text}
use Rattle.number_words.proofs.Numbers.{number_text-number_of, is_number-number_text, is_plain_number-number_text, number_of-number_text, number_text-signed_decimal}
use Rattle.number_words.proofs.WordSteps.{words_of-spaced_lines}
use Rattle.number_words.proofs.laws.spelling.Goals as goal

pub returns-clause-number : goal.returns-clause-number
returns-clause-number c w number plain = number_text-number_of w plain

pub returns-clause-is_number : goal.returns-clause-is_number
returns-clause-is_number c z = is_number-number_text z

pub returns-clause-is_plain_number : goal.returns-clause-is_plain_number
returns-clause-is_plain_number c z = is_plain_number-number_text z

pub returns-clause-number_back : goal.returns-clause-number_back
returns-clause-number_back c z = number_of-number_text z

pub returns-clause-number_printed : goal.returns-clause-number_printed
returns-clause-number_printed c z small = number_text-signed_decimal z small

pub returns-clause-cost : goal.returns-clause-cost
returns-clause-cost c w cost plain = micro_text-spelled_cost w plain

pub returns-clause-is_cost : goal.returns-clause-is_cost
returns-clause-is_cost c n = is_cost-micro_text n

pub returns-clause-is_plain_cost : goal.returns-clause-is_plain_cost
returns-clause-is_plain_cost c n = is_plain_cost-micro_text n

pub returns-clause-cost_back : goal.returns-clause-cost_back
returns-clause-cost_back c n = spelled_cost-micro_text n

pub returns-clause-words : goal.returns-clause-words
returns-clause-words c ws words = words_of_line-spaced ws words

pub returns-clause-lines : goal.returns-clause-lines
returns-clause-lines c lines words = words_of-spaced_lines lines words

pub returns-clause-number_is_word : goal.returns-clause-number_is_word
returns-clause-number_is_word c z = is_word-number_text z

pub returns-clause-cost_is_word : goal.returns-clause-cost_is_word
returns-clause-cost_is_word c n = is_word-micro_text n
