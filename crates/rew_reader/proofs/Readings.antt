-- What the lines of a text say, as a function: rewards, or a fault. Nothing else is said by the definitions, and this is.
use Rattle.std.proofs.Common.{◌≡◌, ℕ, Option, Some, None, List, [], ◌∷◌, ◌++◌, map, ap, refl, sym, subst, ◌∙◌}
use Rattle.std.specs.List.{range_with_len}
use Rattle.model_core.specs.Files.{RewLists}
use Rattle.text_lines.proofs.EntryReads.{zip_long}
use Rattle.text_lines.proofs.EntryRuns.{LinesCase, Right, Wrong, IsLinesCase, lines_case, lines_case_is, lines_case_holds}
use Rattle.text_lines.proofs.FileReadings.{Reading, Says, Faults, IsReading, HasReading}
use Rattle.text_lines.proofs.PastCases.{IsPastCase, first_past, all_within, past_is, first_past_holds}
use Rattle.text_lines.specs.Entries.{IsEntry, AreEntries, scale_of}
use Rattle.text_lines.specs.EntryFault.{HasFailingLine, HasLinePast}
use Rattle.text_lines.specs.WordLines.{WordLine, word_lines_of}
use Rattle.text_lines.specs.declared.fault.FileWhat.{FileWhat}
use Rattle.text_lines.specs.declared.fault.FileWhat.TheVariants as what
use Rattle.rew_reader.specs.RewardLines.{StateReward, reward_lines}
use Rattle.rew_reader.specs.RewText.{AreWithin, HasTooLarge, reward_of, LinesSayRew, RewSays}
use Rattle.rew_reader.specs.RewFault.{LinesHaveFault, RewFaultAt}
use Rattle.rew_reader.proofs.RewardKinds.{rewards_decided}
use Rattle.rew_reader.proofs.RewardLimits.{reward_limit}

-- the number of the first line whose reward is too large at the scale
abbrev first_large : ℕ → List WordLine → List StateReward → Option ℕ
first_large d lines entries = first_past (AreWithin d) (HasTooLarge d) (reward_limit d) [] lines entries

-- a line that is wrong is a fault of the lines
pub failing : (n : ℕ) (lines : List WordLine) (k : ℕ) (w : FileWhat) → HasFailingLine (reward_lines n) lines k w
    → LinesHaveFault n lines k w
failing n lines k what.RewardScale h = absurd h.fails
failing n lines k other h = h

module _ (n : ℕ) (lines : List WordLine) where
  -- the rewards of these entries
  abbrev rewards_at : ℕ → List StateReward → List ℕ
  rewards_at scale entries = map (reward_of scale entries) (range_with_len 0 n)

  abbrev rew_lists : List StateReward → RewLists
  rew_lists entries = record { scale = scale_of entries; rewards = rewards_at (scale_of entries) entries }

  abbrev by_scale : List StateReward → Option ℕ → Reading RewLists
  by_scale entries None = Says (rew_lists entries)
  by_scale entries (Some number) = Faults number what.RewardScale

  abbrev by_lines : LinesCase ℕ → Reading RewLists
  by_lines (Wrong number w) = Faults number w
  by_lines (Right entries) = by_scale entries (first_large (scale_of entries) lines entries)

  reading : Reading RewLists
  reading = by_lines (lines_case (reward_lines n) (rewards_decided n) lines)

  -- ---- what the definitions say is what `reading` says

  after_lines : (c : LinesCase ℕ) → IsLinesCase (reward_lines n) lines c → reading ≡ by_lines c
  unfolding reading
  after_lines c h = ap by_lines (lines_case_is (reward_lines n) (rewards_decided n) lines c h)

  says_is : (rew : RewLists) → LinesSayRew n lines rew → reading ≡ Says rew
  says_is rew h =
      let entries = h.entries in
      let d = scale_of entries in
      let within : AreWithin d entries = subst (λ z. AreWithin z entries) h.scale h.within in
      let rewards : rew.rewards ≡ rewards_at d entries = h.rewards ∙ ap (λ z. rewards_at z entries) h.scale in
      let with_scale : ℕ → RewLists = λ z. record { scale = z; rewards = rewards_at d entries } in
      let with_list : List ℕ → RewLists = λ z. record { scale = rew.scale; rewards = z } in
      after_lines (Right entries) h.are
      ∙ ap (by_scale entries) (all_within (AreWithin d) (HasTooLarge d) (reward_limit d) [] lines entries within)
      ∙ ap Says (ap with_scale (sym h.scale) ∙ ap with_list (sym rewards))

  scale_is : (number : ℕ) → HasLinePast (reward_lines n) AreWithin HasTooLarge lines number → reading ≡ Faults number what.RewardScale
  scale_is number h =
      let entries = h.before ++ h.entry ∷ h.after in
      let d = scale_of entries in
      after_lines (Right entries) h.are
      ∙ ap (λ z. by_scale entries (first_large d z entries)) h.split
      ∙ ap (by_scale entries)
      (past_is (AreWithin d) (HasTooLarge d) (reward_limit d) [] h.earlier h.line h.later h.before h.entry h.after h.place h.within h.past)
      ∙ ap (λ z. Faults z what.RewardScale) (sym h.here)

  fault_is : (number : ℕ) (w : FileWhat) → LinesHaveFault n lines number w → reading ≡ Faults number w
  fault_is number what.RewardScale h = scale_is number h
  fault_is number other h = after_lines (Wrong number other) h

  -- ---- what `reading` says holds

  scale_holds : (entries : List StateReward) → AreEntries (reward_lines n) lines entries → (c : Option ℕ)
      → IsPastCase (AreWithin (scale_of entries)) (HasTooLarge (scale_of entries)) [] lines entries c
      → IsReading (LinesSayRew n lines) (LinesHaveFault n lines) (by_scale entries c)
  scale_holds entries are None h = record { entries = entries; are = are; scale = refl; within = h; rewards = refl }
  scale_holds entries are (Some number) h = record {
    earlier = h.earlier;
    line = h.line;
    later = h.later;
    before = h.front;
    entry = h.entry;
    after = h.after;
    split = h.lines_split;
    are = subst (AreEntries (reward_lines n) lines) h.entries_split are;
    place = h.place;
    within = subst (λ z. AreWithin (scale_of z) h.front) h.entries_split h.within;
    past = subst (λ z. HasTooLarge (scale_of z) (h.front ++ h.entry ∷ [])) h.entries_split h.past;
    here = h.here;
  }

  lines_hold : (c : LinesCase ℕ) → IsLinesCase (reward_lines n) lines c
      → IsReading (LinesSayRew n lines) (LinesHaveFault n lines) (by_lines c)
  lines_hold (Wrong number w) h = failing n lines number w h
  lines_hold (Right entries) h =
      let d = scale_of entries in
      scale_holds entries h (first_large d lines entries)
      (first_past_holds (AreWithin d) (HasTooLarge d) (reward_limit d) [] lines entries
      (zip_long (IsEntry (reward_lines n)) lines entries h.each) (reward_limit d).none)

  holds : IsReading (LinesSayRew n lines) (LinesHaveFault n lines) reading
  unfolding reading
  holds = lines_hold (lines_case (reward_lines n) (rewards_decided n) lines) (lines_case_holds (reward_lines n) (rewards_decided n) lines)

-- so there is one reading
pub rew_reading : (text : List ℕ) (n : ℕ) → HasReading (RewSays text n) (RewFaultAt text n)
rew_reading text n = record {
  reading = reading n (word_lines_of text);
  holds = holds n (word_lines_of text);
  says = says_is n (word_lines_of text);
  faults = fault_is n (word_lines_of text);
}
