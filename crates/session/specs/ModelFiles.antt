-- What the files of a command stand for, and what is wrong with the first that has a fault.
use Rattle.std.specs.Prelude.{◌≡◌, ℕ, ◌<◌, ◌≤◌, ◌⊎◌, List, length, Option, Some, None}
use Rattle.command_words.specs.Command.{Spoken}
use Rattle.outside.specs.Shelf.{Pair, IsFile, IsTooBig}
use Rattle.outside.specs.declared.files.TheConstants.{FILE_LIMIT}
use Rattle.model_core.specs.Files.{TraLists, LabLists, RewLists}
use Rattle.model_core.specs.Model.{LabelledChain, files_chain}
use Rattle.report.specs.declared.model_fault.ModelFault.{ModelFault}
use Rattle.report.specs.declared.model_fault.Which.{Which}
use Rattle.report.specs.declared.model_fault.Which.TheVariants as which
use Rattle.text_lines.specs.declared.fault.FileWhat.{FileWhat}
use Rattle.text_lines.specs.declared.fault.FileWhat.TheVariants.{TooBig, WatchState}
use Rattle.lab_reader.specs.LabFault.{LabFaultAt}
use Rattle.lab_reader.specs.LabText.{LabSays}
use Rattle.rew_reader.specs.RewFault.{RewFaultAt}
use Rattle.rew_reader.specs.RewText.{RewSays}
use Rattle.tra_reader.specs.TraFault.{TraFaultAt}
use Rattle.tra_reader.specs.TraText.{TraSays}

-- the file was taken whole, and its text is so
pub record TakesText (name : List ℕ) (files : Option (List Pair)) (IsSo : List ℕ → Type 0) : Type 0 where
  pub bytes : List ℕ
  pub is_file : IsFile name files bytes
  pub within : length bytes ≤ FILE_LIMIT
  pub is_so : IsSo bytes

-- the file stands for this chain
abbrev pub TakesTra : List ℕ → Option (List Pair) → TraLists → Type 0
TakesTra name files tra = TakesText name files (λ bytes. TraSays bytes tra)

-- the file stands for these labels of n states
abbrev pub TakesLab : ℕ → List ℕ → Option (List Pair) → LabLists → Type 0
TakesLab n name files lab = TakesText name files (λ bytes. LabSays bytes n lab)

-- the file, if there is one, stands for these rewards of n states
abbrev pub TakesRew : ℕ → Option (List ℕ) → Option (List Pair) → Option RewLists → Type 0
TakesRew n None files None = Unit {0}
TakesRew n None files (Some rew) = ⊥
TakesRew n (Some name) files None = ⊥
TakesRew n (Some name) files (Some rew) = TakesText name files (λ bytes. RewSays bytes n rew)

-- the files stand for a model, which has the state that is to be watched
pub record TakesModel (command : Spoken) (files : Option (List Pair)) : Type 0 where
  pub tra : TraLists
  pub lab : LabLists
  pub rew : Option RewLists
  pub takes_tra : TakesTra command.tra files tra
  pub has_state : command.options.state < tra.n
  pub takes_lab : TakesLab tra.n command.lab files lab
  pub takes_rew : TakesRew tra.n command.rew files rew

-- the file has too many bytes, which is told at line 0
pub record HasTooManyBytes (name : List ℕ) (files : Option (List Pair)) (line : ℕ) (what : FileWhat) : Type 0 where
  pub too_big : IsTooBig name files
  pub at_no_line : line ≡ 0
  pub told : what ≡ TooBig

-- the file has too many bytes, or was taken whole and has this fault at this line
abbrev pub IsFaulty : List ℕ → Option (List Pair) → (List ℕ → ℕ → FileWhat → Type 0) → ℕ → FileWhat → Type 0
IsFaulty name files FaultAt line what = HasTooManyBytes name files line what ⊎ TakesText name files (λ bytes. FaultAt bytes line what)

-- the file stands for a chain that doesn't have the state, from 0, that is to be watched, which is told at line 0
pub record LacksWatchedState (name : List ℕ) (files : Option (List Pair)) (state line : ℕ) (what : FileWhat) : Type 0 where
  pub tra : TraLists
  pub takes : TakesTra name files tra
  pub lacks : tra.n ≤ state
  pub at_no_line : line ≡ 0
  pub told : what ≡ WatchState

-- what is wrong with the file of the chain
abbrev pub IsTraFaulty : List ℕ → Option (List Pair) → ℕ → ℕ → FileWhat → Type 0
IsTraFaulty name files state line what = IsFaulty name files TraFaultAt line what ⊎ LacksWatchedState name files state line what

-- what is wrong with the file of the labels of n states
abbrev pub IsLabFaulty : ℕ → List ℕ → Option (List Pair) → ℕ → FileWhat → Type 0
IsLabFaulty n name files line what = IsFaulty name files (λ bytes. LabFaultAt bytes n) line what

-- what is wrong with the file of the rewards of n states, where there is one
abbrev pub IsRewFaulty : ℕ → Option (List ℕ) → Option (List Pair) → ℕ → FileWhat → Type 0
IsRewFaulty n None files line what = ⊥
IsRewFaulty n (Some name) files line what = IsFaulty name files (λ bytes. RewFaultAt bytes n) line what

-- the file of the chain stands for one that has the watched state, and this is wrong with the file of the labels
pub record IsLabFaultyAfter (command : Spoken) (files : Option (List Pair)) (line : ℕ) (what : FileWhat) : Type 0 where
  pub tra : TraLists
  pub takes_tra : TakesTra command.tra files tra
  pub has_state : command.options.state < tra.n
  pub faulty : IsLabFaulty tra.n command.lab files line what

-- the files of the chain, which has the watched state, and of the labels stand for some, and this is wrong with the file of the rewards
pub record IsRewFaultyAfter (command : Spoken) (files : Option (List Pair)) (line : ℕ) (what : FileWhat) : Type 0 where
  pub tra : TraLists
  pub lab : LabLists
  pub takes_tra : TakesTra command.tra files tra
  pub has_state : command.options.state < tra.n
  pub takes_lab : TakesLab tra.n command.lab files lab
  pub faulty : IsRewFaulty tra.n command.rew files line what

-- what is wrong with the first file that has a fault
abbrev pub IsFaultyAt : Spoken → Option (List Pair) → Which → ℕ → FileWhat → Type 0
IsFaultyAt command files which.TraFile line what = IsTraFaulty command.tra files command.options.state line what
IsFaultyAt command files which.LabFile line what = IsLabFaultyAfter command files line what
IsFaultyAt command files which.RewFile line what = IsRewFaultyAfter command files line what

abbrev pub IsFileFaulty : Spoken → Option (List Pair) → ModelFault → Type 0
IsFileFaulty command files fault = IsFaultyAt command files fault.file fault.line fault.what

-- the labelled chain of the files
abbrev pub model_of : {command : Spoken} {files : Option (List Pair)} → TakesModel command files → LabelledChain
model_of model = files_chain model.tra model.lab model.rew
