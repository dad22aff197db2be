use Rattle.plain_sim_tests.proofs.tests.count_steps.Given as goal

abbrev pub ghosts-walk_all : goal.ghosts-walk_all
ghosts-walk_all g a = record { name = a.blank.name; parts = a.blank.parts }
