-- Which words are a command.
use Rattle.std.proofs.Common.{◌≡◌, ◌↔◌, ℕ, List, [], ◌∷◌, Some, None, Option, refl, sym, ap, subst, ◌∙◌, arith, true, false}
use Rattle.std.specs.Prelude.{IfSome, bytes_eq, codes, decimal}
use Rattle.std.specs.Option.{option_map}
use Rattle.std.proofs.lemmas.Fmt.{decimal_injective}
use Rattle.std.proofs.lemmas.Option.{same_Some}
use Rattle.sb_words.specs.declared.options.Options.{Options}
use Rattle.sb_words.specs.declared.request.Request.{Request}
use Rattle.sb_words.specs.Words.{Asked, IsAmount, IsCommand, IsFileName, IsKeyWord, IsNoCommand, IsSize, IsValid, asked_of}
use Rattle.sb_words.specs.Words.Asked.{Sum, Run, Slow, Audit, Work, Watch, Feeds, Part, Save, Resume}
use Rattle.sb_words.proofs.Sizes.{AreAnswered, AreSizesAnswered}

-- the answer is what these words ask for
abbrev pub Answers : Option Asked → List (List ℕ) → Type 0
Answers answer words = (wanted : Asked) → (answer ≡ Some wanted) ↔ IsCommand wanted words

-- no answer where nothing is asked for
pub no_answer : (r : Option Request) → r ≡ None → (words : List (List ℕ)) → IsNoCommand words → Answers (option_map asked_of r) words
no_answer r is words none wanted = (
  λ e. absurd (cc (sym (ap (option_map asked_of) is) ∙ e)),
  λ command. absurd (none wanted command),
)

-- where no words are answered, nothing is asked for, and the other way round
pub refused : (r : Option Request) (words : List (List ℕ)) → Answers (option_map asked_of r) words → (r ≡ None) ↔ IsNoCommand words
refused r words exact = (λ is wanted command. absurd (cc (sym (ap (option_map asked_of) is) ∙ (exact wanted).1 command)), unanswered r exact)
  where
    unanswered : (r : Option Request) → Answers (option_map asked_of r) words → IsNoCommand words → r ≡ None
    unanswered None exact silent = refl
    unanswered (Some request) exact silent = absurd (silent (asked_of request) ((exact (asked_of request)).0 refl))

-- the word of a command
abbrev pub word_of : Asked → List ℕ
word_of (Sum size options) = codes "sum"
word_of (Run name options) = codes "run"
word_of (Slow name) = codes "slow"
word_of Audit = codes "audit"
word_of (Work records options) = codes "work"
word_of (Watch name key options) = codes "watch"
word_of (Feeds name file_a file_b options) = codes "feeds"
word_of (Part name options) = codes "part"
word_of (Save name) = codes "save"
word_of (Resume name checkpoint options) = codes "resume"

-- a command begins with its word
pub begins : (wanted : Asked) (command : List ℕ) (words : List (List ℕ)) → IsCommand wanted (command ∷ words) → command ≡ word_of wanted
begins (Sum size options) command (argument ∷ words) is = is.0
begins (Run name options) command (argument ∷ words) is = is.0
begins (Slow name) command (argument ∷ []) is = is.0
begins Audit command [] is = is
begins (Work records options) command (argument ∷ words) is = is.0
begins (Watch name key options) command (argument ∷ second ∷ words) is = is.0
begins (Feeds name file_a file_b options) command (argument ∷ second ∷ third ∷ words) is = is.0
begins (Part name options) command (argument ∷ words) is = is.0
begins (Save name) command (argument ∷ []) is = is.0
begins (Resume name checkpoint options) command (argument ∷ second ∷ words) is = is.0
begins wanted command words is = absurd is

-- one word is not another
differs : (a b : List ℕ) → bytes_eq a b ≡ false → bytes_eq a a ≡ true → a ≡ b → ⊥
differs a b other same e = let again = ap (bytes_eq a) e in cc

-- options that are none make no command
pub no_sum : (argument : List ℕ) (words : List (List ℕ)) → AreAnswered None words → IsNoCommand (codes "sum" ∷ argument ∷ words)
no_sum argument words none (Sum size options) is = cc ((none options).1 is.3)
no_sum argument words none wanted is = absurd (differs (codes "sum") (word_of wanted) refl refl (begins wanted (codes "sum") (argument ∷ words) is))

pub no_work : (argument : List ℕ) (words : List (List ℕ)) → AreSizesAnswered None words → IsNoCommand (codes "work" ∷ argument ∷ words)
no_work argument words none (Work records options) is = cc ((none options).1 (is.3, is.4))
no_work argument words none wanted is = absurd (differs (codes "work") (word_of wanted) refl refl (begins wanted (codes "work") (argument ∷ words) is))

pub no_run : (name : List ℕ) (words : List (List ℕ)) → AreAnswered None words → IsNoCommand (codes "run" ∷ name ∷ words)
no_run name words none (Run plan options) is = cc ((none options).1 is.3)
no_run name words none wanted is = absurd (differs (codes "run") (word_of wanted) refl refl (begins wanted (codes "run") (name ∷ words) is))

pub no_part : (name : List ℕ) (words : List (List ℕ)) → AreSizesAnswered None words → IsNoCommand (codes "part" ∷ name ∷ words)
no_part name words none (Part plan options) is = cc ((none options).1 (is.3, is.4))
no_part name words none wanted is = absurd (differs (codes "part") (word_of wanted) refl refl (begins wanted (codes "part") (name ∷ words) is))

-- words that ask for one thing alone
only : (mine : Asked) (words : List (List ℕ)) → IsCommand mine words → ((wanted : Asked) → IsCommand wanted words → mine ≡ wanted)
    → Answers (Some mine) words
only mine words is one wanted = (
  λ e. subst (λ w. IsCommand w words) (same_Some mine wanted e) is,
  λ command. ap (λ w. Some w) (one wanted command),
)

-- a size and options
pub is_sum : (argument : List ℕ) (words : List (List ℕ)) (size : ℕ) → IsSize size → argument ≡ decimal size
    → (options : Options) → AreAnswered (Some options) words
    → Answers (Some (Sum size options)) (codes "sum" ∷ argument ∷ words)
is_sum argument words size is spelled options exact =
    only (Sum size options) (codes "sum" ∷ argument ∷ words) (refl, spelled, is, (exact options).0 refl) one
  where
    one : (wanted : Asked) → IsCommand wanted (codes "sum" ∷ argument ∷ words) → Sum size options ≡ wanted
    one (Sum other given) command =
        let sizes : size ≡ other = decimal_injective size other (omega (arith, is.1)) (omega (arith, command.2.1)) (sym spelled ∙ command.1) in
        let same = same_Some options given ((exact given).1 command.3) in
        cc
    one wanted command = absurd (differs (codes "sum") (word_of wanted) refl refl (begins wanted (codes "sum") (argument ∷ words) command))

-- a number of records and options
pub is_work : (argument : List ℕ) (words : List (List ℕ)) (records : ℕ) → IsAmount records → argument ≡ decimal records
    → (options : Options) → AreSizesAnswered (Some options) words
    → Answers (Some (Work records options)) (codes "work" ∷ argument ∷ words)
is_work argument words records is spelled options exact =
    let sizes = (exact options).0 refl in
    only (Work records options) (codes "work" ∷ argument ∷ words) (refl, spelled, is, sizes.0, sizes.1) one
  where
    one : (wanted : Asked) → IsCommand wanted (codes "work" ∷ argument ∷ words) → Work records options ≡ wanted
    one (Work other given) command =
        let amounts : records ≡ other = decimal_injective records other (omega (arith, is.1)) (omega (arith, command.2.1)) (sym spelled ∙ command.1) in
        let same = same_Some options given ((exact given).1 (command.3, command.4)) in
        cc
    one wanted command = absurd (differs (codes "work") (word_of wanted) refl refl (begins wanted (codes "work") (argument ∷ words) command))

-- a plan and options
pub is_run : (name : List ℕ) (words : List (List ℕ)) → IsFileName name → (options : Options) → AreAnswered (Some options) words
    → Answers (Some (Run name options)) (codes "run" ∷ name ∷ words)
is_run name words is options exact =
    only (Run name options) (codes "run" ∷ name ∷ words) (refl, refl, is, (exact options).0 refl) one
  where
    one : (wanted : Asked) → IsCommand wanted (codes "run" ∷ name ∷ words) → Run name options ≡ wanted
    one (Run plan given) command =
        let plans = command.1 in
        let same = same_Some options given ((exact given).1 command.3) in
        cc
    one wanted command = absurd (differs (codes "run") (word_of wanted) refl refl (begins wanted (codes "run") (name ∷ words) command))

pub is_part : (name : List ℕ) (words : List (List ℕ)) → IsFileName name → (options : Options) → AreSizesAnswered (Some options) words
    → Answers (Some (Part name options)) (codes "part" ∷ name ∷ words)
is_part name words is options exact =
    let sizes = (exact options).0 refl in
    only (Part name options) (codes "part" ∷ name ∷ words) (refl, refl, is, sizes.0, sizes.1) one
  where
    one : (wanted : Asked) → IsCommand wanted (codes "part" ∷ name ∷ words) → Part name options ≡ wanted
    one (Part plan given) command =
        let plans = command.1 in
        let same = same_Some options given ((exact given).1 (command.3, command.4)) in
        cc
    one wanted command = absurd (differs (codes "part") (word_of wanted) refl refl (begins wanted (codes "part") (name ∷ words) command))

-- a plan, a key and options
pub is_watch : (name key : List ℕ) (words others : List (List ℕ)) → words ≡ key ∷ others → IsFileName name → IsKeyWord key
    → (options : Options) → AreSizesAnswered (Some options) others
    → Answers (Some (Watch name key options)) (codes "watch" ∷ name ∷ words)
is_watch name key words others are is is_key options exact =
    let sizes = (exact options).0 refl in
    subst (λ ws. Answers (Some (Watch name key options)) (codes "watch" ∷ name ∷ ws)) (sym are)
    (only (Watch name key options) (codes "watch" ∷ name ∷ key ∷ others) (refl, refl, is, refl, is_key, sizes.0, sizes.1) one)
  where
    one : (wanted : Asked) → IsCommand wanted (codes "watch" ∷ name ∷ key ∷ others) → Watch name key options ≡ wanted
    one (Watch plan word given) command =
        let plans = command.1 in
        let keys = command.3 in
        let same = same_Some options given ((exact given).1 (command.5, command.6)) in
        cc
    one wanted command = absurd (differs (codes "watch") (word_of wanted) refl refl (begins wanted (codes "watch") (name ∷ key ∷ others) command))

-- options that it does not take make no command
pub no_watch : (name key : List ℕ) (words others : List (List ℕ)) → words ≡ key ∷ others → AreSizesAnswered None others
    → IsNoCommand (codes "watch" ∷ name ∷ words)
no_watch name key words others are none wanted is =
    silent wanted (subst (λ ws. IsCommand wanted (codes "watch" ∷ name ∷ ws)) are is)
  where
    silent : (wanted : Asked) → IsCommand wanted (codes "watch" ∷ name ∷ key ∷ others) → ⊥
    silent (Watch plan word options) command = cc ((none options).1 (command.5, command.6))
    silent wanted command = absurd (differs (codes "watch") (word_of wanted) refl refl (begins wanted (codes "watch") (name ∷ key ∷ others) command))

-- a plan, two files and options
pub is_feeds : (name file_a file_b : List ℕ) (words others : List (List ℕ)) → words ≡ file_a ∷ file_b ∷ others
    → IsFileName name → IsFileName file_a → IsFileName file_b
    → (options : Options) → AreAnswered (Some options) others
    → Answers (Some (Feeds name file_a file_b options)) (codes "feeds" ∷ name ∷ words)
is_feeds name file_a file_b words others are is is_a is_b options exact =
    subst (λ ws. Answers (Some (Feeds name file_a file_b options)) (codes "feeds" ∷ name ∷ ws)) (sym are)
    (only (Feeds name file_a file_b options) (codes "feeds" ∷ name ∷ file_a ∷ file_b ∷ others) (refl, refl, is, refl, is_a, refl, is_b, (exact options).0 refl) one)
  where
    one : (wanted : Asked) → IsCommand wanted (codes "feeds" ∷ name ∷ file_a ∷ file_b ∷ others) → Feeds name file_a file_b options ≡ wanted
    one (Feeds plan a b given) command =
        let plans = command.1 in
        let firsts = command.3 in
        let seconds = command.5 in
        let same = same_Some options given ((exact given).1 command.7) in
        cc
    one wanted command = absurd (differs (codes "feeds") (word_of wanted) refl refl (begins wanted (codes "feeds") (name ∷ file_a ∷ file_b ∷ others) command))

pub no_feeds : (name file_a file_b : List ℕ) (words others : List (List ℕ)) → words ≡ file_a ∷ file_b ∷ others → AreAnswered None others
    → IsNoCommand (codes "feeds" ∷ name ∷ words)
no_feeds name file_a file_b words others are none wanted is =
    silent wanted (subst (λ ws. IsCommand wanted (codes "feeds" ∷ name ∷ ws)) are is)
  where
    silent : (wanted : Asked) → IsCommand wanted (codes "feeds" ∷ name ∷ file_a ∷ file_b ∷ others) → ⊥
    silent (Feeds plan a b options) command = cc ((none options).1 command.7)
    silent wanted command = absurd (differs (codes "feeds") (word_of wanted) refl refl (begins wanted (codes "feeds") (name ∷ file_a ∷ file_b ∷ others) command))

-- a plan, a checkpoint and options
pub is_resume : (name checkpoint : List ℕ) (words others : List (List ℕ)) → words ≡ checkpoint ∷ others → IsFileName name → IsFileName checkpoint
    → (options : Options) → AreSizesAnswered (Some options) others
    → Answers (Some (Resume name checkpoint options)) (codes "resume" ∷ name ∷ words)
is_resume name checkpoint words others are is is_file options exact =
    let sizes = (exact options).0 refl in
    subst (λ ws. Answers (Some (Resume name checkpoint options)) (codes "resume" ∷ name ∷ ws)) (sym are)
    (only (Resume name checkpoint options) (codes "resume" ∷ name ∷ checkpoint ∷ others) (refl, refl, is, refl, is_file, sizes.0, sizes.1) one)
  where
    one : (wanted : Asked) → IsCommand wanted (codes "resume" ∷ name ∷ checkpoint ∷ others) → Resume name checkpoint options ≡ wanted
    one (Resume plan file given) command =
        let plans = command.1 in
        let files = command.3 in
        let same = same_Some options given ((exact given).1 (command.5, command.6)) in
        cc
    one wanted command = absurd (differs (codes "resume") (word_of wanted) refl refl (begins wanted (codes "resume") (name ∷ checkpoint ∷ others) command))

pub no_resume : (name checkpoint : List ℕ) (words others : List (List ℕ)) → words ≡ checkpoint ∷ others → AreSizesAnswered None others
    → IsNoCommand (codes "resume" ∷ name ∷ words)
no_resume name checkpoint words others are none wanted is =
    silent wanted (subst (λ ws. IsCommand wanted (codes "resume" ∷ name ∷ ws)) are is)
  where
    silent : (wanted : Asked) → IsCommand wanted (codes "resume" ∷ name ∷ checkpoint ∷ others) → ⊥
    silent (Resume plan file options) command = cc ((none options).1 (command.5, command.6))
    silent wanted command = absurd (differs (codes "resume") (word_of wanted) refl refl (begins wanted (codes "resume") (name ∷ checkpoint ∷ others) command))

-- what is read in the words of a command is its own reading
pub read_is : (read : Option Request) (own : Request) (words : List (List ℕ)) → Answers (Some (asked_of own)) words
    → ((wanted : Asked) → IsCommand wanted words → option_map asked_of read ≡ Some wanted) → option_map asked_of read ≡ Some (asked_of own)
read_is read own words exact reads = reads (asked_of own) ((exact (asked_of own)).0 refl)

pub read_exact : (read : Option Request) (own : Request) (words : List (List ℕ)) → Answers (Some (asked_of own)) words
    → ((wanted : Asked) → IsCommand wanted words → option_map asked_of read ≡ Some wanted) → Answers (option_map asked_of read) words
read_exact read own words exact reads = subst (λ answer. Answers answer words) (sym (read_is read own words exact reads)) exact

pub read_valid : (read : Option Request) (own : Request) → option_map asked_of read ≡ Some (asked_of own) → IsValid (asked_of own) → IfSome read (λ request. IsValid (asked_of request))
read_valid None own is valid = absurd (cc is)
read_valid (Some request) own is valid = subst IsValid (sym (same_Some (asked_of request) (asked_of own) is)) valid
