-- What the lines of a text say, as a function: a chain, or a fault. Nothing else is said by the definitions, and this is.
use Rattle.std.proofs.Common.{◌≡◌, ℕ, ◌<◌, inl, inr, Option, Some, None, List, [], ◌∷◌, ◌++◌, length, take, ap, refl, sym, subst, ◌∙◌}
use Rattle.std.proofs.Common.{arith}
use Rattle.std.proofs.lemmas.List.{take_all}
use Rattle.model_core.specs.Files.{TraLists}
use Rattle.model_core.specs.Transitions.{exit_sum}
use Rattle.model_core.specs.declared.limits.TheConstants.{AMOUNT_LIMIT}
use Rattle.model_core.specs.declared.rate.Rate.{Rate}
use Rattle.text_lines.proofs.EntryReads.{zip_long}
use Rattle.text_lines.proofs.EntryRuns.{LinesCase, Right, Wrong, IsLinesCase, lines_case, lines_case_is, lines_case_holds}
use Rattle.text_lines.proofs.FileReadings.{Reading, Says, Faults, IsReading, HasReading}
use Rattle.text_lines.proofs.PastCases.{IsPastCase, first_past, all_within, past_is, first_past_holds}
use Rattle.text_lines.specs.Entries.{IsEntry, AreEntries, scale_of}
use Rattle.text_lines.specs.LinesOf.{end_line_of}
use Rattle.text_lines.specs.WordLines.{WordLine, word_lines_of}
use Rattle.text_lines.specs.declared.fault.FileWhat.{FileWhat}
use Rattle.text_lines.specs.declared.fault.FileWhat.TheVariants as what
use Rattle.tra_reader.specs.Entries.{StatePair, Transition, transition_lines}
use Rattle.tra_reader.specs.TraText.{AreWithin, HasTooLarge, chain_rates, LinesSayTra, TraSays}
use Rattle.tra_reader.specs.TraFault.{HasBody, HasWrongLine, HasRatesOutOfRange, LinesHaveFault, TraFaultAt}
use Rattle.tra_reader.proofs.BodyCases.{miscount, exact_is, few_is, many_is, CountCase, Exact, Few, Many, miscount_holds, take_front}
use Rattle.tra_reader.proofs.BodyCases.{due_fails, fails_due}
use Rattle.tra_reader.proofs.HeadCases.{HeadCase, Head, NoHead, IsHeadCase, head_case, head_is, lacks_states, lacks_transitions}
use Rattle.tra_reader.proofs.HeadCases.{states_outside, transitions_outside, head_holds}
use Rattle.tra_reader.proofs.RateLimits.{exit_sum-chain, rate_limit}
use Rattle.tra_reader.proofs.TransitionKinds.{transitions_decided}

-- the number of the first line at which the rates out of its state add up to too much
abbrev first_large : ℕ → List WordLine → List Transition → Option ℕ
first_large d lines entries = first_past (AreWithin d) (HasTooLarge d) (rate_limit d) [] lines entries

-- a line that is wrong is a fault of the lines
pub wrong_line : (lines : List WordLine) (end k : ℕ) (w : FileWhat) → HasWrongLine lines k w → LinesHaveFault lines end k w
wrong_line lines end k what.Header h = absurd h.line.fails
wrong_line lines end k what.StatesRange h = absurd h.line.fails
wrong_line lines end k what.TransitionsRange h = absurd h.line.fails
wrong_line lines end k what.Count h = absurd h.line.fails
wrong_line lines end k what.RateRange h = absurd h.line.fails
wrong_line lines end k other h = h

module _ (lines : List WordLine) (end : ℕ) where
  -- the chain of these entries
  abbrev chain_lists : ℕ → List Transition → TraLists
  chain_lists n entries = record { n = n; scale = scale_of entries; rates = chain_rates (scale_of entries) entries }

  abbrev by_rates : ℕ → List Transition → Option ℕ → Reading TraLists
  by_rates n entries None = Says (chain_lists n entries)
  by_rates n entries (Some number) = Faults number what.RateRange

  abbrev by_count : ℕ → List WordLine → List Transition → Option ℕ → Reading TraLists
  by_count n body entries None = by_rates n entries (first_large (scale_of entries) body entries)
  by_count n body entries (Some number) = Faults number what.Count

  abbrev by_lines : ℕ → ℕ → List WordLine → LinesCase StatePair → Reading TraLists
  by_lines n count body (Wrong number w) = Faults number w
  by_lines n count body (Right entries) = by_count n body entries (miscount end count body)

  abbrev by_head : HeadCase → Reading TraLists
  by_head (NoHead number w) = Faults number w
  by_head (Head n count body) = by_lines n count body (lines_case (transition_lines n) (transitions_decided n) (take count body))

  reading : Reading TraLists
  reading = by_head (head_case lines end)

  -- ---- what the definitions say is what `reading` says

  no_head : (number : ℕ) (w : FileWhat) → head_case lines end ≡ NoHead number w → reading ≡ Faults number w
  unfolding reading
  no_head number w e = ap by_head e

  after_head : (b : HasBody lines) (c : LinesCase StatePair) → IsLinesCase (transition_lines b.n) (take b.count b.body) c
      → reading ≡ by_lines b.n b.count b.body c
  unfolding reading
  after_head b c h =
      ap by_head (head_is lines end b.n b.count b.body b.head)
      ∙ ap (by_lines b.n b.count b.body) (lines_case_is (transition_lines b.n) (transitions_decided b.n) (take b.count b.body) c h)

  -- the lines that are due are right
  after_lines : (b : HasBody lines) (due : List WordLine) (entries : List Transition) → take b.count b.body ≡ due
      → AreEntries (transition_lines b.n) due entries → reading ≡ by_count b.n b.body entries (miscount end b.count b.body)
  after_lines b due entries e are = after_head b (Right entries) (subst (λ z. AreEntries (transition_lines b.n) z entries) (sym e) are)

  -- all lines are right
  after_all : (b : HasBody lines) (entries : List Transition) → length b.body ≡ b.count → AreEntries (transition_lines b.n) b.body entries
      → reading ≡ by_rates b.n entries (first_large (scale_of entries) b.body entries)
  after_all b entries all are =
      after_lines b b.body entries (take_all b.count b.body (omega (arith, all))) are
      ∙ ap (by_count b.n b.body entries) (exact_is end b.count b.body all)

  says_is : (tra : TraLists) → LinesSayTra lines tra → reading ≡ Says tra
  says_is tra h =
      let d = scale_of h.entries in
      let rates : tra.rates ≡ chain_rates d h.entries = h.rates ∙ ap (λ z. chain_rates z h.entries) h.scale in
      let within : AreWithin d h.entries =
      λ s. subst (λ z. z < AMOUNT_LIMIT) (ap (λ z. exit_sum z s) rates ∙ exit_sum-chain d h.entries s) (h.exits s)
      in
      let by_scale : ℕ → TraLists = λ z. record { n = tra.n; scale = z; rates = chain_rates d h.entries } in
      let by_list : List Rate → TraLists = λ z. record { n = tra.n; scale = tra.scale; rates = z } in
      after_all (record { n = tra.n; count = h.count; body = h.body; head = h.head }) h.entries h.all h.are
      ∙ ap (by_rates tra.n h.entries) (all_within (AreWithin d) (HasTooLarge d) (rate_limit d) [] h.body h.entries within)
      ∙ ap Says (ap by_scale (sym h.scale) ∙ ap by_list (sym rates))

  count_is : (number : ℕ) → LinesHaveFault lines end number what.Count → reading ≡ Faults number what.Count
  count_is number (inl h) =
      after_lines h.after h.after.body h.entries (take_all h.after.count h.after.body (omega (arith, h.short))) h.are
      ∙ ap (by_count h.after.n h.after.body h.entries) (few_is end h.after.count h.after.body h.short)
      ∙ ap (λ z. Faults z what.Count) (sym h.here)
  count_is number (inr h) =
      after_lines h.after h.front h.entries
      (ap (take h.after.count) h.split ∙ take_front h.front (h.line ∷ h.more) h.after.count h.full) h.are
      ∙ ap (by_count h.after.n h.after.body h.entries)
      (ap (miscount end h.after.count) h.split ∙ many_is end h.after.count h.front h.line h.more h.full)
      ∙ ap (λ z. Faults z what.Count) (sym h.here)

  rates_is : (number : ℕ) → HasRatesOutOfRange lines number → reading ≡ Faults number what.RateRange
  rates_is number h =
      let p = h.past in
      let entries = p.before ++ p.entry ∷ p.after in
      let d = scale_of entries in
      after_all h.after entries h.full p.are
      ∙ ap (λ z. by_rates h.after.n entries (first_large d z entries)) p.split
      ∙ ap (by_rates h.after.n entries)
      (past_is (AreWithin d) (HasTooLarge d) (rate_limit d) [] p.earlier p.line p.later p.before p.entry p.after p.place p.within p.past)
      ∙ ap (λ z. Faults z what.RateRange) (sym p.here)

  wrong_is : (number : ℕ) (w : FileWhat) → HasWrongLine lines number w → reading ≡ Faults number w
  wrong_is number w h =
      after_head h.after (Wrong number w) (due_fails (transition_lines h.after.n) h.after.body h.after.count number w h.line h.due)

  fault_is : (number : ℕ) (w : FileWhat) → LinesHaveFault lines end number w → reading ≡ Faults number w
  fault_is number what.Header (inl h) = no_head number what.Header (lacks_states lines end number h)
  fault_is number what.Header (inr h) = no_head number what.Header (lacks_transitions lines end number h)
  fault_is number what.StatesRange h = no_head number what.StatesRange (states_outside lines end number h)
  fault_is number what.TransitionsRange h = no_head number what.TransitionsRange (transitions_outside lines end number h)
  fault_is number what.Count h = count_is number h
  fault_is number what.RateRange h = rates_is number h
  fault_is number other h = wrong_is number other h

  -- ---- what `reading` says holds

  abbrev Holds : Reading TraLists → Type 0
  Holds r = IsReading (LinesSayTra lines) (LinesHaveFault lines end) r

  module _ (b : HasBody lines) where
    rates_hold : (entries : List Transition) → AreEntries (transition_lines b.n) b.body entries → length b.body ≡ b.count → (c : Option ℕ)
        → IsPastCase (AreWithin (scale_of entries)) (HasTooLarge (scale_of entries)) [] b.body entries c → Holds (by_rates b.n entries c)
    rates_hold entries are all None h = record {
      count = b.count;
      body = b.body;
      head = b.head;
      entries = entries;
      are = are;
      all = all;
      scale = refl;
      rates = refl;
      exits = λ s. subst (λ z. z < AMOUNT_LIMIT) (sym (exit_sum-chain (scale_of entries) entries s)) (h s);
    }
    rates_hold entries are all (Some number) h = record {
      after = b;
      full = all;
      past = record {
        earlier = h.earlier;
        line = h.line;
        later = h.later;
        before = h.front;
        entry = h.entry;
        after = h.after;
        split = h.lines_split;
        are = subst (AreEntries (transition_lines b.n) b.body) h.entries_split are;
        place = h.place;
        within = subst (λ z. AreWithin (scale_of z) h.front) h.entries_split h.within;
        past = subst (λ z. HasTooLarge (scale_of z) (h.front ++ h.entry ∷ [])) h.entries_split h.past;
        here = h.here;
      };
    }

    abbrev AreDue : List WordLine → List Transition → Type 0
    AreDue due entries = AreEntries (transition_lines b.n) due entries

    count_holds : (entries : List Transition) → AreDue (take b.count b.body) entries → (c : Option ℕ) → CountCase end b.count b.body c
        → Holds (by_count b.n b.body entries c)
    count_holds entries are c (Exact e all) =
        let d = scale_of entries in
        let whole : AreDue b.body entries = subst (λ z. AreDue z entries) (take_all b.count b.body (omega (arith, all))) are in
        subst (λ z. Holds (by_count b.n b.body entries z)) (sym e)
        (rates_hold entries whole all (first_large d b.body entries)
        (first_past_holds (AreWithin d) (HasTooLarge d) (rate_limit d) [] b.body entries
        (zip_long (IsEntry (transition_lines b.n)) b.body entries whole.each) (rate_limit d).none))
    count_holds entries are c (Few e short) =
        let whole : AreDue b.body entries = subst (λ z. AreDue z entries) (take_all b.count b.body (omega (arith, short))) are in
        subst (λ z. Holds (by_count b.n b.body entries z)) (sym e)
        (inl (record { after = b; entries = entries; are = whole; short = short; here = refl }))
    count_holds entries are c (Many number e h) =
        let due : take b.count b.body ≡ h.front = ap (take b.count) h.split ∙ take_front h.front (h.line ∷ h.more) b.count h.full in
        subst (λ z. Holds (by_count b.n b.body entries z)) (sym e)
        (inr (record {
          after = b;
          front = h.front;
          line = h.line;
          more = h.more;
          split = h.split;
          entries = entries;
          are = subst (λ z. AreDue z entries) due are;
          full = h.full;
          here = h.here;
        }))

    lines_hold : (c : LinesCase StatePair) → IsLinesCase (transition_lines b.n) (take b.count b.body) c
        → Holds (by_lines b.n b.count b.body c)
    lines_hold (Wrong number w) h =
        let found = fails_due (transition_lines b.n) b.body b.count number w h in
        wrong_line lines end number w (record { after = b; line = found.line; due = found.due })
    lines_hold (Right entries) h = count_holds entries h (miscount end b.count b.body) (miscount_holds end b.count b.body)

  head_holds_so : (c : HeadCase) → IsHeadCase lines end c → Holds (by_head c)
  head_holds_so (NoHead number w) h = h
  head_holds_so (Head n count body) h =
      lines_hold (record {
        n =
            n;
        count = count;
        body = body;
        head = h;
      }) (lines_case (transition_lines n) (transitions_decided n) (take count body))
      (lines_case_holds (transition_lines n) (transitions_decided n) (take count body))

  holds : Holds reading
  unfolding reading
  holds = head_holds_so (head_case lines end) (head_holds lines end)

-- so there is one reading
pub tra_reading : (text : List ℕ) → HasReading (TraSays text) (TraFaultAt text)
tra_reading text = record {
  reading = reading (word_lines_of text) (end_line_of text);
  holds = holds (word_lines_of text) (end_line_of text);
  says = says_is (word_lines_of text) (end_line_of text);
  faults = fault_is (word_lines_of text) (end_line_of text);
}
