-- What is known of the files that were read, and of the names that were asked for.
use Rattle.std.proofs.Common.{◌≡◌, ℕ, ◌+◌, ◌<◌, List, ◌++◌, length, take, min, Option, Some, None, IfSome, Result, Ok, Err, IsErr, sym, subst, ap, ◌∙◌, append_assoc, append-nil, arith}
use Rattle.std.proofs.Math.Seq.{take-append-add, take-length}
use Rattle.std.proofs.lemmas.List.{take-append-le, take_min}
use Rattle.std.proofs.lemmas.Bool.{false≢true}
use Rattle.std.proofs.lemmas.List.FromFn.{length-map-range_with_len}
use Rattle.outside.specs.Shelf.{Pair}
use Rattle.model_core.specs.Files.{TraLists, LabLists, RewLists}
use Rattle.text_lines.specs.declared.fault.FileFault.{FileFault}
use Rattle.command_words.specs.Command.{Spoken}
use Rattle.session.specs.Command.{names_of}
use Rattle.session.specs.ModelFiles.{TakesTra, TakesLab, TakesRew, IsFaultyAt, IsFileFaulty}
use Rattle.session.specs.Reading.{IsTraReading, IsLabReading, IsRewReading, AsksForModel}
use Rattle.session.specs.Serve.{AsksFor}
use Rattle.session.specs.declared.model_files.ModelReading.{ModelReading}
use Rattle.session.specs.declared.reading.Stop.{Stop}
use Rattle.report.specs.declared.model_fault.ModelFault.{ModelFault}
use Rattle.report.specs.declared.model_fault.Which.{Which}
use Rattle.report.specs.declared.model_fault.Which.TheVariants.{TraFile, LabFile, RewFile}

-- ---- the files one after another
pub takes_tra : (state : ℕ) (files : Option (List Pair)) (name spoken : List ℕ) (tra : TraLists) (read : Result TraLists FileFault)
    → name ≡ spoken → read ≡ Ok tra → IsTraReading state name files read → TakesTra spoken files tra × (state < tra.n)
takes_tra state files name spoken tra read e is h =
    subst (λ n. IsTraReading state n files (Ok tra)) e (subst (IsTraReading state name files) is h)

-- the file of labels is read over the states of the file before it
pub takes_lab : (files mid : Option (List Pair)) (name spoken : List ℕ) (n : ℕ) (tra : TraLists) (lab : LabLists)
    (read : Result LabLists FileFault)
    → name ≡ spoken → mid ≡ files → n ≡ tra.n → read ≡ Ok lab → IsLabReading n name mid read → TakesLab tra.n spoken files lab
takes_lab files mid name spoken n tra lab read e same count is h =
    subst (λ m. TakesLab tra.n m files lab) e
    (subst (λ k. TakesLab k name files lab) count (subst (λ f. TakesLab n name f lab) same (subst (IsLabReading n name mid) is h)))

-- and so is the file of rewards
pub takes_rew : (files mid : Option (List Pair)) (name spoken : Option (List ℕ)) (n : ℕ) (tra : TraLists) (rew : Option RewLists)
    (read : Result (Option RewLists) FileFault)
    → name ≡ spoken → mid ≡ files → n ≡ tra.n → read ≡ Ok rew → IsRewReading n name mid read → TakesRew tra.n spoken files rew
takes_rew files mid name spoken n tra rew read e same count is h =
    subst (λ m. TakesRew tra.n m files rew) e
    (subst (λ k. TakesRew k name files rew) count (subst (λ f. TakesRew n name f rew) same (subst (IsRewReading n name mid) is h)))

-- there are as many rewards as states
pub rew_length : (n : ℕ) (name : Option (List ℕ)) (files : Option (List Pair)) (rew : RewLists) → TakesRew n name files (Some rew)
    → length rew.rewards ≡ n
rew_length n None files rew p = absurd p
rew_length n (Some name) files rew p = ap length p.is_so.rewards ∙ length-map-range_with_len _ 0 n

-- a fault of one of the files, as that of the model
module _ (command : Spoken) (files : Option (List Pair)) where
  as_model_fault : (f : Which) (fault : FileFault) (told : ModelFault) → told.file ≡ f → told.line ≡ fault.line → told.what ≡ fault.what
      → IsFaultyAt command files f fault.line fault.what → IsFileFaulty command files told
  as_model_fault f fault told p q r h =
      subst (λ x. IsFaultyAt command files x told.line told.what) (sym p)
      (subst (λ x. IsFaultyAt command files f x told.what) (sym q) (subst (λ x. IsFaultyAt command files f fault.line x) (sym r) h))

  pub tra_fault : (fault : FileFault) (told : ModelFault) (read : Result TraLists FileFault) → told.file ≡ TraFile → told.line ≡ fault.line
      → told.what ≡ fault.what → read ≡ Err fault → IsTraReading command.options.state command.tra files read
      → IsFileFaulty command files told
  tra_fault fault told read p q r is h =
      as_model_fault TraFile fault told p q r (subst (IsTraReading command.options.state command.tra files) is h)

  pub lab_fault : (mid : Option (List Pair)) (n : ℕ) (tra : TraLists) (fault : FileFault) (told : ModelFault)
      (read : Result LabLists FileFault)
      → told.file ≡ LabFile → told.line ≡ fault.line → told.what ≡ fault.what → TakesTra command.tra files tra
      → command.options.state < tra.n
      → mid ≡ files → n ≡ tra.n → read ≡ Err fault → IsLabReading n command.lab mid read → IsFileFaulty command files told
  lab_fault mid n tra fault told read p q r takes has same count is h =
      as_model_fault LabFile fault told p q r
      (record {
        tra = tra;
        takes_tra = takes;
        has_state = has;
        faulty =
            subst (λ k. IsLabReading k command.lab files (Err fault)) count
            (subst (λ f. IsLabReading n command.lab f (Err fault)) same (subst (IsLabReading n command.lab mid) is h));
      })

  pub rew_fault : (mid : Option (List Pair)) (n : ℕ) (tra : TraLists) (lab : LabLists) (fault : FileFault) (told : ModelFault)
      (read : Result (Option RewLists) FileFault)
      → told.file ≡ RewFile → told.line ≡ fault.line → told.what ≡ fault.what → TakesTra command.tra files tra
      → command.options.state < tra.n → TakesLab tra.n command.lab files lab
      → mid ≡ files → n ≡ tra.n → read ≡ Err fault → IsRewReading n command.rew mid read → IsFileFaulty command files told
  rew_fault mid n tra lab fault told read p q r takes has labels same count is h =
      as_model_fault RewFile fault told p q r
      (record {
        tra = tra;
        lab = lab;
        takes_tra = takes;
        has_state = has;
        takes_lab = labels;
        faulty =
            subst (λ k. IsRewReading k command.rew files (Err fault)) count
            (subst (λ f. IsRewReading n command.rew f (Err fault)) same (subst (IsRewReading n command.rew mid) is h));
      })

-- the same of names that are equal
pub asked_same : (files : Option (List Pair)) (old new xs ys : List (List ℕ)) → xs ≡ ys → IfSome files (λ _. new ≡ old ++ xs)
    → IfSome files (λ _. new ≡ old ++ ys)
asked_same files old new xs ys e h = subst (λ n. IfSome files (λ _. new ≡ old ++ n)) e h

pub front_same : (files : Option (List Pair)) (old new xs ys : List (List ℕ)) → xs ≡ ys → IfSome files (λ _. AsksFor xs old new)
    → IfSome files (λ _. AsksFor ys old new)
front_same files old new xs ys e h = subst (λ n. IfSome files (λ _. AsksFor n old new)) e h

-- two facts of files that are told give a third
pub told_both : (files mid : Option (List Pair)) (P Q R : Type 0) → mid ≡ files → (P → Q → R)
    → IfSome files (λ _. P) → IfSome mid (λ _. Q) → IfSome files (λ _. R)
told_both files mid P Q R same f p q = told files p (subst (λ o. IfSome o (λ _. Q)) same q)
  where
    told : (o : Option (List Pair)) → IfSome o (λ _. P) → IfSome o (λ _. Q) → IfSome o (λ _. R)
    told None p q = tt
    told (Some pairs) p q = f p q

-- ---- the names that were asked for
module _ (old : List (List ℕ)) where
  pub asks_whole : (xs new : List (List ℕ)) → new ≡ old ++ xs → AsksFor xs old new
  asks_whole xs new e = record { count = length xs; appended = e ∙ ap (λ l. old ++ l) (sym (take-length xs)) }

  -- names after others
  pub asks_then : (xs ys mid new : List (List ℕ)) → mid ≡ old ++ xs → new ≡ mid ++ ys → new ≡ old ++ (xs ++ ys)
  asks_then xs ys mid new p q = q ∙ ap (λ l. l ++ ys) p ∙ append_assoc old xs ys

  pub asks_after : (xs ys mid new : List (List ℕ)) → mid ≡ old ++ xs → AsksFor ys mid new → AsksFor (xs ++ ys) old new
  asks_after xs ys mid new p q = record {
    count = length xs + q.count;
    appended =
        q.appended ∙ ap (λ l. l ++ take q.count ys) p ∙ append_assoc old xs (take q.count ys)
        ∙ ap (λ l. old ++ l) (sym (take-append-add xs ys q.count));
  }

  -- a front of names is one of them and more
  pub asks_front : (xs ys new : List (List ℕ)) → AsksFor xs old new → AsksFor (xs ++ ys) old new
  asks_front xs ys new q = record {
    count = min q.count (length xs);
    appended =
        q.appended ∙ ap (λ l. old ++ l) (sym (take_min q.count xs) ∙ sym (take-append-le (min q.count (length xs)) xs ys (omega arith)));
  }

-- after a fault, names that were asked for are a front of those of the command
pub asks_err : (command : Spoken) (r : Result ModelReading Stop) (old new : List (List ℕ)) → IsErr r
    → AsksFor (names_of (Some command)) old new → AsksForModel command r old new
asks_err command (Ok reading) old new err asks = absurd (false≢true err)
asks_err command (Err stop) old new err asks = asks

-- no name is asked for: a front of any names
pub none_asked : (files : Option (List Pair)) (names old : List (List ℕ)) → IfSome files (λ _. AsksFor names old old)
none_asked None names old = tt
none_asked (Some pairs) names old = record { count = 0; appended = sym (append-nil old) }
