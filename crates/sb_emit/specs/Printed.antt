-- What a printer of rows has.

-- no text waits between calls
pub record Printed (K : Type 0) : Type 0 where
  pub sink : K
