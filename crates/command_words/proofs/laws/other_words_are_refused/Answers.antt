use Rattle.command_words.proofs.ReadWords.{flag_has_no_value, last_word_is_no_option, no_other_word_is_read, no_value_begins_with_hyphen}
use Rattle.command_words.proofs.laws.other_words_are_refused.Goals as goal

pub returns : goal.returns
returns c = record {
  last_word = last_word_is_no_option;
  hyphen = no_value_begins_with_hyphen;
  flag = flag_has_no_value;
  other_word = no_other_word_is_read;
}
