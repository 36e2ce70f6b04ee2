-- What the whole text says.
use Rattle.std.proofs.Common.{◌≡◌, ℕ, Result, Ok, Err, IfOk, IfErr, List, subst, sym}
use Rattle.text_lines.proofs.EntryReads.{are_entries, line_past}
use Rattle.text_lines.proofs.Telling.{told_weaker}
use Rattle.text_lines.specs.Entries.{AreEntries}
use Rattle.text_lines.specs.EntryFault.{HasLinePast}
use Rattle.text_lines.specs.EntryLines.{entries_of}
use Rattle.text_lines.specs.Lines.{LineText}
use Rattle.text_lines.specs.LinesOf.{lines_of, end_line_of}
use Rattle.text_lines.specs.Told.{IsToldBy}
use Rattle.text_lines.specs.WordLines.{WordLine, word_lines_in, word_lines_of}
use Rattle.text_lines.specs.declared.entry_line.EntryLine.{EntryLine}
use Rattle.text_lines.specs.declared.fault.FileWhat.{FileWhat}
use Rattle.text_lines.specs.declared.fault.ReadFault.{ReadFault}
use Rattle.model_core.specs.Files.{TraLists}
use Rattle.tra_reader.specs.Entries.{transition_lines}
use Rattle.tra_reader.specs.Head.{HasHead}
use Rattle.tra_reader.specs.Pairs.{pair_of}
use Rattle.tra_reader.specs.Rates.{IsChainOf, HasRateFault}
use Rattle.tra_reader.specs.Reading.{AreAllRead}
use Rattle.tra_reader.specs.TraFault.{HasRatesOutOfRange, LinesHaveFault, TraFaultAt}
use Rattle.tra_reader.specs.TraText.{AreWithin, HasTooLarge, LinesSayTra, TraSays}
use Rattle.tra_reader.specs.declared.entry.Pair.{Pair}
use Rattle.tra_reader.proofs.RateLemmas.{no_entry}

module _ (lines rows : List WordLine) (n count : ℕ) (es : List (EntryLine Pair)) (head : HasHead lines n count rows)
    (read : AreAllRead n count rows es) where
  -- the lines say the chain of their entries
  pub says_chain : (tra : TraLists) → IsChainOf n es tra → LinesSayTra lines tra
  says_chain tra chain = record {
    count = count;
    body = rows;
    head = subst (λ z. HasHead lines z count rows) (sym chain.states) head;
    entries = entries_of pair_of es;
    are =
        subst (λ z. AreEntries (transition_lines z) rows (entries_of pair_of es)) (sym chain.states)
        (are_entries (transition_lines n) pair_of rows es read.read);
    all = read.all;
    scale = chain.scale;
    rates = chain.rates;
    exits = chain.exits;
  }

  -- the first entry at which the rates add up to too much is a fault of the lines
  pub rate_fault : (end number : ℕ) (fault : FileWhat) → HasRateFault es number fault → LinesHaveFault lines end number fault
  rate_fault end number fault h =
      let found : HasRatesOutOfRange lines number = record {
        after = record { n = n; count = count; body = rows; head = head };
        full = read.all;
        past = subst (λ z. HasLinePast (transition_lines n) AreWithin HasTooLarge rows z) (sym (h.here no_entry))
            (line_past (transition_lines n) pair_of AreWithin HasTooLarge rows es h.place no_entry read.read h.first);
      } in
      subst (λ z. LinesHaveFault lines end number z) (sym h.is) found

  -- a chain that was made is what the lines say
  says_made : (made : Result TraLists ReadFault) → IfOk made (IsChainOf n es) → IfOk made (LinesSayTra lines)
  says_made (Ok tra) h = says_chain tra h
  says_made (Err fault) h = tt

  -- and a fault that it was refused for is one of the lines
  told_made : (end : ℕ) (made : Result TraLists ReadFault) → IfErr made (IsToldBy (HasRateFault es))
      → IfErr made (IsToldBy (LinesHaveFault lines end))
  told_made end (Ok tra) h = tt
  told_made end (Err fault) h = told_weaker (HasRateFault es) (LinesHaveFault lines end) (rate_fault end) fault h

-- what was made of the lines that were seen is what the text says
pub text_made : (text : List ℕ) (seen : List LineText) (rows : List WordLine) (n count : ℕ) (es used : List (EntryLine Pair))
    (made : Result TraLists ReadFault)
    → seen ≡ lines_of text → HasHead (word_lines_in seen) n count rows → AreAllRead n count rows es → used ≡ es
    → IfOk made (IsChainOf n used) → IfErr made (IsToldBy (HasRateFault used))
    → IfOk made (TraSays text) × IfErr made (IsToldBy (TraFaultAt text))
text_made text seen rows n count es used made all head read same value fault =
    let of_text : HasHead (word_lines_of text) n count rows = subst (λ z. HasHead (word_lines_in z) n count rows) all head in
    let of_used : AreAllRead n count rows used = subst (AreAllRead n count rows) (sym same) read in (
      says_made (word_lines_of text) rows n count used of_text of_used made value,
      told_made (word_lines_of text) rows n count used of_text of_used (end_line_of text) made fault,
    )
